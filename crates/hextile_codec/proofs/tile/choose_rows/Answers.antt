use Rattle.std.proofs.Common.{arith}
use Rattle.raster.specs.declared.rect.Rect.{Rect}
use Rattle.raster.specs.Screen.{Canvas, part_of}
use Rattle.joined_runs.specs.declared.rect_form.RectForm.TheVariants.{OfRows}
use Rattle.hextile_codec.specs.Carried.{carried_by}
use Rattle.hextile_codec.specs.Sources.{AreOfTile, shows}
use Rattle.hextile_codec.proofs.Alike.{of_tile}
use Rattle.hextile_codec.proofs.tile.choose_rows.Goals as goal

pub returns : goal.returns
returns c =
    let tile : Rect = c.args.tile.now in
    let canvas : Canvas = part_of tile (shows c.args.format.now c.args.source.now) in
    let of : AreOfTile c.seen-seen.result tile.w tile.h canvas = c.seen-seen.ensures _ c.read-is_read.ensures in
    of_tile OfRows c.args.format.now (carried_by c.args.said.now) c.seen-seen.result tile.w tile.h canvas c.requires.size.w_some c.requires.size.h_some of _ _ c.choose.ensures

pub choose-requires-clause-lies : goal.choose-requires-clause-lies
choose-requires-clause-lies c =
    let of : AreOfTile c.seen-seen.result c.args.tile.now.w c.args.tile.now.h (part_of c.args.tile.now (shows c.args.format.now c.args.source.now)) = c.seen-seen.ensures _ c.read-is_read.ensures in
    of.lies

pub choose-requires-clause-w_some : goal.choose-requires-clause-w_some
choose-requires-clause-w_some c =
    let of : AreOfTile c.seen-seen.result c.args.tile.now.w c.args.tile.now.h (part_of c.args.tile.now (shows c.args.format.now c.args.source.now)) = c.seen-seen.ensures _ c.read-is_read.ensures in
    omega (arith, of.wide, c.requires.size.w_some)

pub choose-requires-clause-w_most : goal.choose-requires-clause-w_most
choose-requires-clause-w_most c =
    let of : AreOfTile c.seen-seen.result c.args.tile.now.w c.args.tile.now.h (part_of c.args.tile.now (shows c.args.format.now c.args.source.now)) = c.seen-seen.ensures _ c.read-is_read.ensures in
    omega (arith, of.wide, c.requires.size.w_most)

pub choose-requires-clause-h_some : goal.choose-requires-clause-h_some
choose-requires-clause-h_some c =
    let of : AreOfTile c.seen-seen.result c.args.tile.now.w c.args.tile.now.h (part_of c.args.tile.now (shows c.args.format.now c.args.source.now)) = c.seen-seen.ensures _ c.read-is_read.ensures in
    omega (arith, of.high, c.requires.size.h_some)

pub choose-requires-clause-h_most : goal.choose-requires-clause-h_most
choose-requires-clause-h_most c =
    let of : AreOfTile c.seen-seen.result c.args.tile.now.w c.args.tile.now.h (part_of c.args.tile.now (shows c.args.format.now c.args.source.now)) = c.seen-seen.ensures _ c.read-is_read.ensures in
    omega (arith, of.high, c.requires.size.h_most)
