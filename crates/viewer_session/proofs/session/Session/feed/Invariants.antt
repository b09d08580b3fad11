use Rattle.std.proofs.Common.{Bool, List, length, ◌-◌, ◌≤◌, drop}
use Rattle.viewer_session.specs.Session.{IsFeeding, IsSameSession}
use Rattle.viewer_session.proofs.session.Session.feed.Given as goal

abbrev pub invariant-loop-used : goal.invariant-loop-used
invariant-loop-used l =
    record { within : l.used ≤ length l.piece; fed : (marks : List Bool) × IsFeeding l.fn.self l.self marks l.piece (drop l.used l.piece); same : IsSameSession l.fn.self l.self }

abbrev pub decreases-loop-used : goal.decreases-loop-used
decreases-loop-used l = length l.piece - l.used
