use Rattle.byte_reading.proofs.ReadingLaws.{IsFed}
use Rattle.proxy_header.specs.State.{ahead}
use Rattle.proxy_header.proofs.state.State.feed.Given as goal

abbrev pub invariant-loop-used : goal.invariant-loop-used
invariant-loop-used l = IsFed (ahead l.fn.self) (ahead l.self) l.piece l.used
