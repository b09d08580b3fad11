use Rattle.std.proofs.Common.{◌∙◌, [], sym}
use Rattle.raster.specs.declared.rect.Rect.{Rect}
use Rattle.raster.specs.Screen.{Canvas, value_at, part_of}
use Rattle.hextile_codec.proofs.RowRuns.{background_alone}
use Rattle.hextile_codec.proofs.TileRuns.{all_above, row_above}
use Rattle.hextile_codec.proofs.runs.is_plain.Goals as goal

pub loop-y-preserved : goal.loop-y-preserved
loop-y-preserved c =
    let tile : Rect = c.args.tile.now in
    let canvas : Canvas = part_of tile (value_at c.args.w c.args.values.now) in
    let none = background_alone c.row_of.result.now c.args.background c.loop-y.y (sym c.is_all.ensures ∙ c.if-not-is_all.false) in
    row_above canvas c.args.background tile.w tile.h c.loop-y.y c.row_of.result.now [] [] c.row_of.ensures.len c.row_of.ensures.values c.loop-y-test.true (sym none) c.loop-y.invariant

pub returns : goal.returns
returns c =
    let tile : Rect = c.args.tile.now in
    λ _. sym (all_above (part_of tile (value_at c.args.w c.args.values.now)) c.args.background tile.w tile.h c.loop-y.y [] c.loop-y-test.false c.loop-y.invariant)
