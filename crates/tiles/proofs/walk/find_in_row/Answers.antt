use Rattle.std.proofs.Common.{◌≡◌, ℕ, Bool, ap, ◌∙◌, arith, inl, inr}
use Rattle.std.proofs.lemmas.Bool.{cases_lt}
use Rattle.tiles.proofs.FoundRuns.{row_run, row_without}
use Rattle.tiles.proofs.walk.find_in_row.Goals as goal

pub returns-in-None-clause-none : goal.returns-in-None-clause-none
returns-in-None-clause-none g c =
    row_without (g.T.DueTiles.due c.args.tiles.now) c.args.met.now c.args.across c.args.row c.args.next
    (λ t left from right. c.in-None.ensures.none t (omega (arith, c.max.ensures)) (omega arith))

pub returns-in-Some-clause-some : goal.returns-in-Some-clause-some
returns-in-Some-clause-some g c =
    let due : ℕ → Bool = g.T.DueTiles.due c.args.tiles.now in
    let found = c.in-Some.ensures.some in
    row_run due c.args.met.now c.args.across c.args.row c.args.next c.in-Some.start c.end_of_due.result c.requires.met.across c.requires.row.0 c.requires.row.1 (omega (arith, c.max.ensures, found.0)) (omega (arith, c.max.ensures, found.0)) (omega (arith, c.end_of_due.ensures.within.0)) (omega (arith, c.end_of_due.ensures.within.1))
    (λ t left from before. found.3 t (omega (arith, c.max.ensures)) before)
    (λ t from before. elim (cases_lt c.in-Some.start t) [
      | inl later ↦ c.end_of_due.ensures.due t (omega arith) before
      | inr first ↦ (let here : t ≡ c.in-Some.start = omega arith in ap due here ∙ found.2)
    ])
    (λ short. c.end_of_due.ensures.end (omega arith))
