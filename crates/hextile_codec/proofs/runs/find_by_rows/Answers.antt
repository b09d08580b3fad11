use Rattle.std.proofs.Common.{◌≡◌, ◌≤◌, ◌+◌, ◌*◌, ◌∙◌, false, List, map, sym, ap, arith}
use Rattle.std.proofs.Math.Nat.{mul-le-mul_right}
use Rattle.raster.specs.declared.rect.Rect.{Rect}
use Rattle.raster.specs.Screen.{Canvas, value_at, part_of}
use Rattle.hextile_codec.specs.declared.runs.Run.{Run}
use Rattle.hextile_codec.specs.TileKinds.{subrect_of, has_one_value}
use Rattle.hextile_codec.proofs.TileRuns.{AreAbove, all_above, row_above, above_mixed}
use Rattle.hextile_codec.proofs.runs.find_by_rows.Goals as goal

pub returns-then-has_runs-clause-mixed : goal.returns-then-has_runs-clause-mixed
returns-then-has_runs-clause-mixed c =
    let tile : Rect = c.args.tile.now in
    let canvas : Canvas = part_of tile (value_at c.args.w c.args.values.now) in
    let above : AreAbove canvas c.args.background tile.w tile.h (c.loop-y.y + 1) c.add_row.new.runs.items =
    row_above canvas c.args.background tile.w tile.h c.loop-y.y c.row_of.result.now c.loop-y.found.items c.add_row.new.runs.items c.row_of.ensures.len c.row_of.ensures.values c.loop-y-test.true c.add_row.ensures.added c.loop-y.invariant.above in
    let one : has_one_value (map subrect_of c.add_row.new.runs.items) ≡ false = ap (λ (rs : List Run). has_one_value (map subrect_of rs)) (sym c.as_slice.ensures.value) ∙ (sym c.has_one_value.ensures ∙ c.if-not-has_one_value.true) in
    λ _. above_mixed canvas c.args.background tile.w tile.h (c.loop-y.y + 1) c.add_row.new.runs.items above one

pub loop-y-preserved : goal.loop-y-preserved
loop-y-preserved c =
    let tile : Rect = c.args.tile.now in
    let canvas : Canvas = part_of tile (value_at c.args.w c.args.values.now) in
    record {
      few = omega (arith, c.add_row.ensures.few, c.loop-y.invariant.few, c.row_of.ensures.len);
      above =
          row_above canvas c.args.background tile.w tile.h c.loop-y.y c.row_of.result.now c.loop-y.found.items c.add_row.new.runs.items c.row_of.ensures.len c.row_of.ensures.values c.loop-y-test.true c.add_row.ensures.added c.loop-y.invariant.above;
    }

pub returns-clause-all : goal.returns-clause-all
returns-clause-all c =
    let tile : Rect = c.args.tile.now in
    λ _. all_above (part_of tile (value_at c.args.w c.args.values.now)) c.args.background tile.w tile.h c.loop-y.y c.loop-y.found.items c.loop-y-test.false c.loop-y.invariant.above

pub add_row-requires-clause-room : goal.add_row-requires-clause-room
add_row-requires-clause-room c =
    let tile : Rect = c.args.tile.now in
    let most : (c.loop-y.y + 1) * tile.w ≤ 16 * tile.w = mul-le-mul_right {m = c.loop-y.y + 1} {n = 16} tile.w (omega arith) in
    omega (arith, c.loop-y.invariant.few, c.row_of.ensures.len, most)
