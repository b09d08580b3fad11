use Rattle.std.proofs.Common.{◌≡◌, ℕ, ◌<◌, ◌∙◌, true, nat_lt, List, slice_index, below_more, sym, arith}
use Rattle.std.specs.List.{list_all}
use Rattle.std.proofs.lemmas.Bool.{ltb-true}
use Rattle.raster.specs.Screen.{Canvas, value_at, part_of}
use Rattle.hextile_codec.proofs.RowRuns.{passes_at}
use Rattle.hextile_codec.proofs.coloured.is_coloured.Goals as goal

pub loop-y-preserved : goal.loop-y-preserved
loop-y-preserved c = λ x y across down.
    let shown : Canvas = part_of c.args.tile.now (value_at c.args.w c.args.numbers.now) in
    let row : List ℕ = c.row_of.result.now in
    let all : list_all (λ v. nat_lt v 16777216) row ≡ true = sym c.are_colours.ensures ∙ c.if-not-are_colours.false in
    let last : shown x c.loop-y.y < 16777216 = rw (← c.row_of.ensures.values x across) (ltb-true (slice_index row x) 16777216 (passes_at (λ v. nat_lt v 16777216) row x all (omega (arith, across, c.row_of.ensures.len)))) in
    below_more (λ k. shown x k < 16777216) c.loop-y.y (λ k lt. c.loop-y.invariant x k across lt) last y down
