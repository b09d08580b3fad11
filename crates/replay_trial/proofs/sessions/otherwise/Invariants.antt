-- Each line leaves the session and the screen of one size, and each turn needs that.
use Rattle.std.proofs.Common.{◌≡◌}
use Rattle.replay_trial.proofs.sessions.otherwise.Given as goal

abbrev pub invariant-loop-line : goal.invariant-loop-line
invariant-loop-line l =
    (goal.iterator-loop-line).can_next l.line-iterator ×
    (goal.iterator-loop-line).is_finite l.line-iterator ×
    (l.session.width ≡ l.screen.width) × (l.session.height ≡ l.screen.height)
