use Rattle.std.proofs.Common.{ℕ, ◌+◌, ◌*◌, length, get_or, sym, arith}
use Rattle.std.proofs.lemmas.Bool.{le-leb}
use Rattle.raster.specs.declared.rect.Rect.{Rect}
use Rattle.raster.specs.Screen.{Canvas, value_at, part_of}
use Rattle.raster.specs.Encoding.{runs}
use Rattle.raster.proofs.AreaRows.{tile_row_len, tile_first}
use Rattle.raster.proofs.RunCount.{counted_more, counted_upto, row_counted}
use Rattle.raster.proofs.run_count.has_runs.Goals as goal

pub returns-then-count-enough : goal.returns-then-count-enough
returns-then-count-enough c =
    let area : Rect = c.args.area.now in
    let canvas : Canvas = part_of area (value_at c.args.w c.args.values.now) in
    let y : ℕ = c.loop-y.y in
    let row = row_counted c.args.values.now c.args.w area y (get_or c.args.values.now (area.y * c.args.w + area.x) 0) c.count_row.result c.requires.across c.requires.down c.loop-y-test.true (tile_first c.args.values.now c.args.w area) (c.count_row.ensures.value y) in
    let more = counted_more canvas area.w y in
    let upto = counted_upto canvas area.w area.h (y + 1) (omega (arith, c.loop-y-test.true)) in
    sym (le-leb c.args.enough (length (runs canvas area.w area.h)) (omega (arith, row, more, upto, c.loop-y.invariant.is, c.from-count.ensures, c.if-count-enough.true)))

pub loop-y-preserved : goal.loop-y-preserved
loop-y-preserved c =
    let area : Rect = c.args.area.now in
    let canvas : Canvas = part_of area (value_at c.args.w c.args.values.now) in
    let y : ℕ = c.loop-y.y in
    let row = row_counted c.args.values.now c.args.w area y (get_or c.args.values.now (area.y * c.args.w + area.x) 0) c.count_row.result c.requires.across c.requires.down c.loop-y-test.true (tile_first c.args.values.now c.args.w area) (c.count_row.ensures.value y) in
    let more = counted_more canvas area.w y in
    let size = tile_row_len c.args.values.now c.args.w area y c.requires.across c.requires.down c.loop-y-test.true in
    record {
      few = omega (arith, c.loop-y.invariant.few, c.from-count.ensures, c.count_row.ensures.few, size, c.requires.across, c.requires.wide);
      is = omega (arith, row, more, c.loop-y.invariant.is, c.from-count.ensures);
    }
