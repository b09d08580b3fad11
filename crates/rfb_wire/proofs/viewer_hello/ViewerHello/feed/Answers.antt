use Rattle.std.proofs.Common.{arith, ap, sym, ◌∙◌, length, get_or}
use Rattle.byte_reading.proofs.ReadingLaws.{fed_more, fed_stops, fed_all, feeds_ok}
use Rattle.rfb_wire.specs.Greeting.{ahead}
use Rattle.rfb_wire.proofs.Greetings.{greeting_steps, greeting_grows}
use Rattle.rfb_wire.proofs.viewer_hello.ViewerHello.feed.Goals as goal

pub loop-used-preserved : goal.loop-used-preserved
loop-used-preserved c = (
  rw (ap ahead c.step.ensures ∙ greeting_steps c.loop-used.self (get_or c.args.piece.now c.loop-used.used 0))
      (fed_more (ahead c.args.self.now) (ahead c.loop-used.self) c.args.piece.now c.loop-used.used c.loop-used.invariant.0 c.loop-used-test.true (sym c.wants_more.ensures ∙ c.if-not-wants_more.false)),
  greeting_grows c.args.self.now c.loop-used.self c.step.new.self c.args.piece.now c.loop-used.used c.loop-used.invariant.1 c.step.ensures c.loop-used-test.true,
)

pub returns-then-not-wants_more : goal.returns-then-not-wants_more
returns-then-not-wants_more c =
    let stop = fed_stops (ahead c.args.self.now) (ahead c.loop-used.self) c.args.piece.now c.loop-used.used c.loop-used.invariant.0 (sym c.wants_more.ensures ∙ c.if-not-wants_more.true) in
    record {
      reads = feeds_ok (ahead c.args.self.now) (ahead c.loop-used.self) c.args.piece.now c.loop-used.used c.so_far.result stop c.so_far.ensures;
      after = rw (← stop.1) c.loop-used.invariant.1;
    }

pub returns : goal.returns
returns c =
    let h = fed_all (ahead c.args.self.now) (ahead c.loop-used.self) c.args.piece.now c.loop-used.used c.loop-used.invariant.0 (omega arith) in
    record {
      reads = feeds_ok (ahead c.args.self.now) (ahead c.loop-used.self) c.args.piece.now (length c.args.piece.now) c.so_far-2.result (h.0, omega (arith, h.1)) c.so_far-2.ensures;
      after = rw (← h.1) c.loop-used.invariant.1;
    }
