use Rattle.std.proofs.Common.{length, ◌-◌, ◌≡◌, ◌≤◌, [], drop}
use Rattle.viewer_session.specs.Session.{IsFeeding}
use Rattle.viewer_session.proofs.session.Session.read_hello.Given as goal

abbrev pub invariant-loop-used : goal.invariant-loop-used
invariant-loop-used l =
    record {
      within : l.used ≤ length l.piece;
      fed : IsFeeding l.fn.self l.self [] l.piece (drop l.used l.piece);
      others : l.self ≡ record l.fn.self { greeting = l.self.greeting; piece = l.self.piece; unsent = l.self.unsent };
      unused : l.used ≡ 0 → l.self ≡ l.fn.self;
    }

abbrev pub decreases-loop-used : goal.decreases-loop-used
decreases-loop-used l = length l.piece - l.used
