use Rattle.std.proofs.Common.{◌≡◌, ◌++◌, take}
use Rattle.byte_reading.proofs.ReadingLaws.{IsFed}
use Rattle.rfb_wire.specs.Greeting.{ahead}
use Rattle.rfb_wire.proofs.viewer_hello.ViewerHello.feed.Given as goal

abbrev pub invariant-loop-used : goal.invariant-loop-used
invariant-loop-used l = IsFed (ahead l.fn.self) (ahead l.self) l.piece l.used × (l.self ≡ record l.fn.self { begun = l.fn.self.begun ++ take l.used l.piece })
