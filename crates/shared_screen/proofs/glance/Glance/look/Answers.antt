use Rattle.std.proofs.Common.{ℕ, sym, subst, arith}
use Rattle.shared_screen.proofs.Histories.{tally_half, tally_rises}
use Rattle.shared_screen.specs.History.{puts_of, ArePublished}
use Rattle.shared_screen.proofs.glance.Glance.look.Goals as goal

pub returns-clause-value : goal.returns-clause-value
returns-clause-value g c = tally_half c.look-changes.new.self c.look-changes.result c.is_legal.ensures c.look-changes.ensures.count

pub returns-clause-rises : goal.returns-clause-rises
returns-clause-rises g c =
    let half = tally_half c.look-changes.new.self c.look-changes.result c.is_legal.ensures c.look-changes.ensures.count in
    let up = tally_rises c.args.self.now c.look-changes.new.self (rw (sym c.self.view_is) c.look-changes.ensures.grows) c.is_legal.ensures in
    omega arith

pub returns-clause-published : goal.returns-clause-published
returns-clause-published g c =
    let half = tally_half c.look-changes.new.self c.look-changes.result c.is_legal.ensures c.look-changes.ensures.count in
    subst (λ (t : ℕ). ArePublished g.J.Publicity.published t (puts_of c.look-changes.new.self)) (sym half) c.is_backed.ensures
