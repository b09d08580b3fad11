use Rattle.std.proofs.Common.{◌*◌, ◌<◌, arith, inl, inr}
use Rattle.std.proofs.lemmas.Bool.{cases_lt}
use Rattle.tiles.proofs.FoundRuns.{not_its_row, row_at_least}
use Rattle.tiles.proofs.walk.find.Goals as goal

pub loop-row-preserved : goal.loop-row-preserved
loop-row-preserved g c t from before =
    elim (cases_lt t (c.loop-row.row * c.args.across)) [
      | inl above ↦ c.loop-row.invariant t from above
      | inr here ↦ c.in_default.ensures.none t from here (omega arith)
    ]

pub returns-clause-none : goal.returns-clause-none
returns-clause-none g c t from there =
    let some : 0 < c.args.across = omega (arith, c.requires.across, c.requires.size.wide.0) in
    elim (cases_lt t (c.loop-row.row * c.args.across)) [
      | inl before ↦ c.loop-row.invariant t from before
      | inr behind ↦ not_its_row (g.T.DueTiles.due c.args.tiles.now) c.args.met.now c.args.across t (inr (omega (arith, row_at_least t c.loop-row.row c.args.across some behind)))
    ]
