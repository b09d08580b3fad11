-- Bytes fed one by one are read as at once.
use Rattle.std.proofs.Common.{arith, ap, sym, ◌∙◌, get_or}
use Rattle.byte_reading.proofs.ReadingLaws.{fed_none, fed_more, fed_stops, fed_all}
use Rattle.proxy_header.specs.State.{ahead}
use Rattle.proxy_header.proofs.state.State.feed.Goals as goal

pub loop-used-preserved : goal.loop-used-preserved
loop-used-preserved c =
    rw c.advance.ensures
    (fed_more (ahead c.args.self.now) (ahead c.loop-used.self) c.args.piece.now c.loop-used.used c.loop-used.invariant c.loop-used-test.true (sym c.wants_more.ensures.value ∙ c.if-not-wants_more.false))

pub returns-then-not-wants_more : goal.returns-then-not-wants_more
returns-then-not-wants_more c =
    let stop = fed_stops (ahead c.args.self.now) (ahead c.loop-used.self) c.args.piece.now c.loop-used.used c.loop-used.invariant (sym c.wants_more.ensures.value ∙ c.if-not-wants_more.true) in
    record { reads = stop.0; used = stop.1 }

pub returns : goal.returns
returns c =
    let all = fed_all (ahead c.args.self.now) (ahead c.loop-used.self) c.args.piece.now c.loop-used.used c.loop-used.invariant (omega arith) in
    record { reads = all.0; used = omega (arith, all.1) }
