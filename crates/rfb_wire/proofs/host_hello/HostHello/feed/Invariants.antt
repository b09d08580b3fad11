use Rattle.std.proofs.Common.{◌≡◌, ℕ, List, ◌++◌, take}
use Rattle.byte_reading.proofs.ReadingLaws.{IsFed}
use Rattle.rfb_wire.specs.Joining.{ahead, HasHeard}
use Rattle.rfb_wire.proofs.host_hello.HostHello.feed.Given as goal

abbrev pub invariant-loop-used : goal.invariant-loop-used
invariant-loop-used l =
    IsFed (ahead l.fn.self) (ahead l.self) l.piece l.used
    × ((stream : List ℕ) → HasHeard l.fn.self stream → HasHeard l.self (stream ++ take l.used l.piece))
    × (l.self.password ≡ l.fn.self.password) × (l.self.sent ≡ l.fn.self.sent)
