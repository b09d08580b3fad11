use Rattle.std.proofs.Common.{arith, ap, sym, ◌∙◌, length}
use Rattle.byte_reading.specs.Reading.{wants_more}
use Rattle.byte_reading.proofs.ReadingLaws.{fed_stops, fed_all, feeds_ok}
use Rattle.rfb_wire.specs.Joining.{ahead}
use Rattle.rfb_wire.proofs.host_hello.HostHello.feed.Goals as goal

pub returns-then-not-wants_more : goal.returns-then-not-wants_more
returns-then-not-wants_more c =
    let stopped = sym (ap (λ v. wants_more (ahead v)) c.self.view_is) ∙ (sym c.wants_more.ensures ∙ c.if-not-wants_more.true) in
    let stop = fed_stops (ahead c.args.self.now) (ahead c.loop-used.self) c.args.piece.now c.loop-used.used c.loop-used.invariant.0 stopped in
    record {
      reads = feeds_ok (ahead c.args.self.now) (ahead c.loop-used.self) c.args.piece.now c.loop-used.used c.so_far.result stop c.so_far.ensures;
      heard = rw (← stop.1) c.loop-used.invariant.1;
      same = record { password = c.loop-used.invariant.2; sent = c.loop-used.invariant.3 };
    }

pub returns : goal.returns
returns c =
    let h = fed_all (ahead c.args.self.now) (ahead c.loop-used.self) c.args.piece.now c.loop-used.used c.loop-used.invariant.0 (omega arith) in
    record {
      reads = feeds_ok (ahead c.args.self.now) (ahead c.loop-used.self) c.args.piece.now (length c.args.piece.now) c.so_far-2.result (h.0, omega (arith, h.1)) c.so_far-2.ensures;
      heard = rw (← h.1) c.loop-used.invariant.1;
      same = record { password = c.loop-used.invariant.2; sent = c.loop-used.invariant.3 };
    }
