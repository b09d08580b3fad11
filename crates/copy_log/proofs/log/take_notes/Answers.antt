use Rattle.std.proofs.Common.{◌≡◌, ◌≤◌, arith, inl, inr}
use Rattle.std.proofs.lemmas.Bool.{cases_lt}
use Rattle.copy_log.proofs.log.take_notes.Goals as goal

pub returns-clause-others : goal.returns-clause-others
returns-clause-others c j lt none =
    c.loop-k.invariant.others j lt (λ k lo hi.
    elim (cases_lt c.args.from c.args.to) [
      | inl less ↦ (let le : c.loop-k.k ≤ c.args.to = c.loop-k.auto.k-end (omega arith) in none k lo (omega arith))
      | inr more ↦ (let is : c.loop-k.k ≡ c.args.from = c.loop-k.invariant.none more in absurd (omega arith))
    ])
