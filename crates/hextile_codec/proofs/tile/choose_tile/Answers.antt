use Rattle.std.proofs.Common.{◌≡◌, map, subst, sym, arith}
use Rattle.raster.specs.declared.rect.Rect.{Rect}
use Rattle.raster.specs.Screen.{Canvas, value_at, part_of}
use Rattle.joined_runs.specs.declared.rect_form.RectForm.TheVariants.{OfRows, Joined}
use Rattle.joined_runs.specs.Joined.{subrects_of}
use Rattle.hextile_codec.specs.Carried.{carried_by}
use Rattle.hextile_codec.specs.TileKinds.{IsChosen, subrect_of}
use Rattle.hextile_codec.specs.Sources.{AreOfTile, shows}
use Rattle.hextile_codec.proofs.Alike.{chosen_alike, of_tile, subrects_alike}
use Rattle.hextile_codec.proofs.KeptForms.{few_counts, if_none}
use Rattle.hextile_codec.proofs.tile.choose_tile.Goals as goal

pub choose-requires-clause-few : goal.choose-requires-clause-few
choose-requires-clause-few c =
    let tile : Rect = c.args.tile.now in
    let kept = rw c.in-Some.is at c.requires.kept in
    let few = few_counts c.in-Some.form.now tile.w tile.h kept.0 c.requires.size.w_some c.requires.size.w_most c.requires.size.h_some c.requires.size.h_most kept.1 in
    omega (arith, few.0)

pub choose-requires-clause-rows_few : goal.choose-requires-clause-rows_few
choose-requires-clause-rows_few c =
    let tile : Rect = c.args.tile.now in
    let kept = rw c.in-Some.is at c.requires.kept in
    let few = few_counts c.in-Some.form.now tile.w tile.h kept.0 c.requires.size.w_some c.requires.size.w_most c.requires.size.h_some c.requires.size.h_most kept.1 in
    omega (arith, few.1)

pub returns-in-Some-clause-kept : goal.returns-in-Some-clause-kept
returns-in-Some-clause-kept c =
    let tile : Rect = c.args.tile.now in
    let shown : Canvas = part_of tile (shows c.args.format.now c.args.source.now) in
    let kept = rw c.in-Some.is at c.requires.kept in
    rw c.in-Some.is (c.choose.ensures.joined kept.0 shown kept.1 kept.2)

pub returns-in-Some-clause-len : goal.returns-in-Some-clause-len
returns-in-Some-clause-len c =
    let tile : Rect = c.args.tile.now in
    let shown : Canvas = part_of tile (shows c.args.format.now c.args.source.now) in
    let kept = rw c.in-Some.is at c.requires.kept in
    (c.choose.ensures.joined kept.0 shown kept.1 kept.2).len

pub returns-in-Some-clause-leaves : goal.returns-in-Some-clause-leaves
returns-in-Some-clause-leaves c =
    let tile : Rect = c.args.tile.now in
    let shown : Canvas = part_of tile (shows c.args.format.now c.args.source.now) in
    let kept = rw c.in-Some.is at c.requires.kept in
    (c.choose.ensures.joined kept.0 shown kept.1 kept.2).leaves

pub returns-clause-len : goal.returns-clause-len
returns-clause-len c =
    let tile : Rect = c.args.tile.now in
    let canvas : Canvas = part_of tile (shows c.args.format.now c.args.source.now) in
    let of : AreOfTile c.seen-seen.result tile.w tile.h canvas = c.seen-seen.ensures _ c.read-is_read.ensures in
    let is : IsChosen Joined c.args.format.now (carried_by c.args.said.now.joined) tile.w tile.h canvas (map subrect_of c.choose_both.new.room.subrects.items) c.choose_both.result.joined =
    of_tile Joined c.args.format.now (carried_by c.args.said.now.joined) c.seen-seen.result tile.w tile.h canvas c.requires.size.w_some c.requires.size.h_some of _ _ c.choose_both.ensures.joined in
    is.len

pub returns-clause-leaves : goal.returns-clause-leaves
returns-clause-leaves c =
    let tile : Rect = c.args.tile.now in
    let canvas : Canvas = part_of tile (shows c.args.format.now c.args.source.now) in
    let of : AreOfTile c.seen-seen.result tile.w tile.h canvas = c.seen-seen.ensures _ c.read-is_read.ensures in
    let is : IsChosen Joined c.args.format.now (carried_by c.args.said.now.joined) tile.w tile.h canvas (map subrect_of c.choose_both.new.room.subrects.items) c.choose_both.result.joined =
    of_tile Joined c.args.format.now (carried_by c.args.said.now.joined) c.seen-seen.result tile.w tile.h canvas c.requires.size.w_some c.requires.size.h_some of _ _ c.choose_both.ensures.joined in
    is.leaves

pub returns-in-Some-clause-rows : goal.returns-in-Some-clause-rows
returns-in-Some-clause-rows c =
    let tile : Rect = c.args.tile.now in
    let shown : Canvas = part_of tile (shows c.args.format.now c.args.source.now) in
    let kept = rw c.in-Some.is at c.requires.kept in
    c.choose.ensures.rows kept.0 shown kept.1 kept.2

pub returns-clause-seen : goal.returns-clause-seen
returns-clause-seen c =
    let tile : Rect = c.args.tile.now in
    let canvas : Canvas = part_of tile (shows c.args.format.now c.args.source.now) in
    let of : AreOfTile c.seen-seen.result tile.w tile.h canvas = c.seen-seen.ensures _ c.read-is_read.ensures in
    if_none _ c.args.form (of_tile Joined c.args.format.now (carried_by c.args.said.now.joined) c.seen-seen.result tile.w tile.h canvas c.requires.size.w_some c.requires.size.h_some of _ _ c.choose_both.ensures.joined)

pub returns-clause-rows : goal.returns-clause-rows
returns-clause-rows c =
    let tile : Rect = c.args.tile.now in
    let canvas : Canvas = part_of tile (shows c.args.format.now c.args.source.now) in
    let of : AreOfTile c.seen-seen.result tile.w tile.h canvas = c.seen-seen.ensures _ c.read-is_read.ensures in
    let seen : Canvas = part_of c.seen-seen.result.tile (value_at c.seen-seen.result.width c.seen-seen.result.values.now) in
    let same : subrects_of OfRows tile.w tile.h canvas ≡ subrects_of OfRows tile.w tile.h seen = subrects_alike OfRows tile.w tile.h canvas seen c.requires.size.w_some c.requires.size.h_some of.looks in
    subst (λ found. IsChosen OfRows c.args.format.now (carried_by c.args.said.now.rows) tile.w tile.h canvas found c.choose_both.result.rows) (sym same)
    (chosen_alike OfRows tile.w tile.h canvas seen c.requires.size.w_some c.requires.size.h_some of.looks c.args.format.now (carried_by c.args.said.now.rows) _ _ (rw (of.wide, of.high) at c.choose_both.ensures.rows))

pub choose_both-requires-clause-lies : goal.choose_both-requires-clause-lies
choose_both-requires-clause-lies c =
    let of : AreOfTile c.seen-seen.result c.args.tile.now.w c.args.tile.now.h (part_of c.args.tile.now (shows c.args.format.now c.args.source.now)) = c.seen-seen.ensures _ c.read-is_read.ensures in
    of.lies

pub choose_both-requires-clause-w_some : goal.choose_both-requires-clause-w_some
choose_both-requires-clause-w_some c =
    let of : AreOfTile c.seen-seen.result c.args.tile.now.w c.args.tile.now.h (part_of c.args.tile.now (shows c.args.format.now c.args.source.now)) = c.seen-seen.ensures _ c.read-is_read.ensures in
    omega (arith, of.wide, c.requires.size.w_some)

pub choose_both-requires-clause-w_most : goal.choose_both-requires-clause-w_most
choose_both-requires-clause-w_most c =
    let of : AreOfTile c.seen-seen.result c.args.tile.now.w c.args.tile.now.h (part_of c.args.tile.now (shows c.args.format.now c.args.source.now)) = c.seen-seen.ensures _ c.read-is_read.ensures in
    omega (arith, of.wide, c.requires.size.w_most)

pub choose_both-requires-clause-h_some : goal.choose_both-requires-clause-h_some
choose_both-requires-clause-h_some c =
    let of : AreOfTile c.seen-seen.result c.args.tile.now.w c.args.tile.now.h (part_of c.args.tile.now (shows c.args.format.now c.args.source.now)) = c.seen-seen.ensures _ c.read-is_read.ensures in
    omega (arith, of.high, c.requires.size.h_some)

pub choose_both-requires-clause-h_most : goal.choose_both-requires-clause-h_most
choose_both-requires-clause-h_most c =
    let of : AreOfTile c.seen-seen.result c.args.tile.now.w c.args.tile.now.h (part_of c.args.tile.now (shows c.args.format.now c.args.source.now)) = c.seen-seen.ensures _ c.read-is_read.ensures in
    omega (arith, of.high, c.requires.size.h_most)
