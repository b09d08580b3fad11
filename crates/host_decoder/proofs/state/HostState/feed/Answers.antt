use Rattle.std.proofs.Common.{◌≡◌, ◌∙◌, true, false, inl, inr, sym, ap, arith}
use Rattle.host_decoder.specs.Decoder.{is_open}
use Rattle.host_decoder.proofs.FeedSteps.{IsOver, fed_more, fed_answer}
use Rattle.host_decoder.proofs.state.HostState.feed.Goals as goal
use Rattle.host_decoder.proofs.state.HostState.feed.Goals.{then-loop-used-test+else-is_open, else-loop-used-test}

pub loop-used-preserved : goal.loop-used-preserved
loop-used-preserved c =
    let i = c.loop-used.invariant in
    let old = c.args.painter.now in
    let now = c.loop-used.painter in
    let new = c.advance-used.new.painter in
    let next = c.advance-used.new.self in
    let is_so : is_open c.loop-used.self ≡ true = sym c.is_open.ensures ∙ c.if-is_open.true in
    record {
      within = omega (arith, c.advance-used.ensures.within.1, c.split_at.ensures.back_len, i.within);
      width = c.advance-used.ensures.stays.width ∙ i.width;
      height = c.advance-used.ensures.stays.height ∙ i.height;
      suits = rw (i.width, i.height) at c.advance-used.ensures.stays.suits;
      fed = λ screen r s. fed_more old now new c.loop-used.self next screen r c.args.piece.now c.loop-used.used c.advance-used.result i.width i.height is_so (i.fed screen r s) (rw c.split_at.ensures.back at (c.advance-used.ensures.uses screen));
      still = λ e. let f : true ≡ false = sym is_so ∙ (ap is_open (i.still e).0 ∙ e) in absurd cc;
    }

pub returns-clause-feeds : goal.returns-clause-feeds
returns-clause-feeds c screen r s =
    let i = c.loop-used.invariant in
    let over : IsOver c.loop-used.self c.args.piece.now c.loop-used.used =
    elim c.loop-used-test.branch [
      | then-loop-used-test+else-is_open w ↦ inl (sym w.is_open.ensures ∙ w.if-is_open.false)
      | else-loop-used-test w ↦ inr w.loop-used-test.false
    ] in
    fed_answer c.args.painter.now c.loop-used.painter c.loop-used.self screen r c.args.piece.now c.loop-used.used c.so_far.result (i.fed screen r s) over c.so_far.ensures

pub returns-clause-closed : goal.returns-clause-closed
returns-clause-closed c e =
    let still = c.loop-used.invariant.still e in
    (cc (c.so_far.ensures, still.0, still.2), still.0, still.1)
