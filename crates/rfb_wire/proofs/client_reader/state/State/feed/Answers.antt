use Rattle.std.proofs.Common.{List, ℕ, sym, ◌∙◌, subst}
use Rattle.rfb_wire.specs.ClientReader.{ahead, UsesOrLoses}
use Rattle.rfb_wire.proofs.Feeding.{feeds_on, feed_stops, feed_ends, uses_within}
use Rattle.rfb_wire.proofs.client_reader.state.State.feed.Goals as goal
use Rattle.rfb_wire.proofs.client_reader.state.State.feed.Goals.{then-loop-used-test+else-wants_more, else-loop-used-test}

pub loop-used-preserved : goal.loop-used-preserved
loop-used-preserved c =
    let uses = subst (λ (left : List ℕ). UsesOrLoses (ahead c.loop-used.self) (ahead c.advance-used.new.self) left c.advance-used.result) c.split_at.ensures.back c.advance-used.ensures in
    record {
      within = (uses_within (ahead c.loop-used.self) (ahead c.advance-used.new.self) c.args.piece.now c.loop-used.used c.advance-used.result uses c.loop-used.invariant.within).1;
      fed = feeds_on (ahead c.args.self.now) (ahead c.loop-used.self) (ahead c.advance-used.new.self) c.args.piece.now c.loop-used.used c.advance-used.result c.loop-used.invariant.fed uses;
    }

pub returns : goal.returns
returns c =
    elim c.loop-used-test.branch [
      | then-loop-used-test+else-wants_more w ↦
          feed_stops (ahead c.args.self.now) (ahead c.loop-used.self) c.args.piece.now c.loop-used.used c.so_far.result c.loop-used.invariant.fed (sym w.wants_more.ensures.value ∙ w.if-wants_more.false) c.so_far.ensures
      | else-loop-used-test w ↦ feed_ends (ahead c.args.self.now) (ahead c.loop-used.self) c.args.piece.now c.loop-used.used c.so_far.result c.loop-used.invariant.fed w.loop-used-test.false c.so_far.ensures
    ]
