use Rattle.std.proofs.Common.{◌≡◌, ℕ, List, ◌++◌, length, drop, sym, ap, subst, true, false, ◌∙◌, arith, length-drop}
use Rattle.std.proofs.lemmas.List.{take_all}
use Rattle.std.proofs.lemmas.Result.{err_from_is_err_and}
use Rattle.host_reader.specs.Running.{HasRead}
use Rattle.host_reader.proofs.Steps.{can_open, can_whole, event_suits, further, put_stops, read_open, read_stops, read_whole, to_the_end, uses_some}
use Rattle.host_reader.proofs.events.put_piece.Goals as goal

pub returns-in_err-used-clause-puts : goal.returns-in_err-used-clause-puts
returns-in_err-used-clause-puts g c screen stream old start =
    let p = err_from_is_err_and c.from_residual.result c.from_residual.ensures.1 in
    let read = c.loop-used.invariant.has_read screen stream old start in
    let end = to_the_end stream c.args.piece.now c.split_at.result.1.now c.loop-used.used c.split_at.ensures.back in
    rw (p.1, p.2)
    (read_stops _ _ screen c.loop-used.decoder c.feed.new.self c.loop-used.painter c.feed.new.painter c.loop-used.between _ c.split_at.result.1.now _ old _ _ end read (c.in_err-used.ensures.feeds _ _ read.reads))

pub overflow_add-used : goal.overflow_add-used
overflow_add-used g c =
    let can = c.loop-used.invariant.can_read in
    let left : length c.split_at.result.1.now ≡ length (drop c.loop-used.used c.args.piece.now) = ap length c.split_at.ensures.back in
    let count = length-drop c.loop-used.used c.args.piece.now in
    let used = uses_some c.loop-used.decoder c.feed.new.self c.loop-used.painter c.feed.new.painter can.screen can.reading c.split_at.result.1.now _ can.wants (omega (arith, left, count)) (c.in_ok-used.ensures.feeds can.screen can.reading can.reads) in
    omega (arith, used.1, left, count)

pub put_event-requires : goal.put_event-requires
put_event-requires g c =
    let can = c.loop-used.invariant.can_read in
    let fed = c.in_ok-used.ensures.feeds can.screen can.reading can.reads in
    let gives = c.whole.ensures.given c.feed.new.painter _ _ fed.0 in
    event_suits c.args.decoder.now.width c.args.decoder.now.height c.feed.new.self.width c.feed.new.self.height _ _ _ c.whole.result c.in-Some.event _
    (c.feed.ensures.size.0 ∙ c.loop-used.invariant.wide) (c.feed.ensures.size.1 ∙ c.loop-used.invariant.high)
    (c.loop-used.invariant.publisher_wide ∙ c.requires.publisher.0) (c.loop-used.invariant.publisher_high ∙ c.requires.publisher.1)
    c.in-Some.is gives.0

pub returns-in_err-put_event-in-Some-clause-puts : goal.returns-in_err-put_event-in-Some-clause-puts
returns-in_err-put_event-in-Some-clause-puts g c screen stream old start =
    let p = err_from_is_err_and c.from_residual-in_err-put_event-in-Some.result c.from_residual-in_err-put_event-in-Some.ensures.1 in
    let read = c.loop-used.invariant.has_read screen stream old start in
    let end = to_the_end stream c.args.piece.now c.split_at.result.1.now c.loop-used.used c.split_at.ensures.back in
    rw (p.1, p.2)
    (put_stops _ _ screen c.loop-used.decoder c.loop-used.painter c.loop-used.between _ c.split_at.result.1.now _ old _ _ _ end read c.in_err-put_event-in-Some.ensures.err.0 c.in_err-put_event-in-Some.ensures.err.1)

pub loop-used-preserved-in-Some : goal.loop-used-preserved-in-Some
loop-used-preserved-in-Some g c =
    let inv = c.loop-used.invariant in
    let fed = c.in_ok-used.ensures.feeds inv.can_read.screen inv.can_read.reading inv.can_read.reads in
    let used = uses_some c.loop-used.decoder c.feed.new.self c.loop-used.painter c.feed.new.painter inv.can_read.screen inv.can_read.reading c.split_at.result.1.now _ inv.can_read.wants (omega arith) fed in
    let gives = c.whole.ensures.given c.feed.new.painter _ _ fed.0 in
    record {
      within = omega (arith, used.1);
      wide = c.whole.ensures.size.0 ∙ (c.feed.ensures.size.0 ∙ inv.wide);
      high = c.whole.ensures.size.1 ∙ (c.feed.ensures.size.1 ∙ inv.high);
      painter = record { width = c.feed.ensures.size.2.width ∙ sym c.whole.ensures.size.0; height = c.feed.ensures.size.2.height ∙ sym c.whole.ensures.size.1 };
      publisher_wide = c.put_event.ensures.size.0 ∙ inv.publisher_wide;
      publisher_high = c.put_event.ensures.size.1 ∙ inv.publisher_high;
      can_read = can_whole c.feed.new.self c.whole.new.self c.feed.new.painter _ _ c.whole.result c.in-Some.event c.in-Some.is gives.0 gives.1;
      has_read = λ screen stream old start.
          let read = inv.has_read screen stream old start in
          let feeds = c.in_ok-used.ensures.feeds _ _ read.reads in
          let given = c.whole.ensures.given c.feed.new.painter _ _ feeds.0 in
          subst (λ (xs : List ℕ). HasRead c.args.decoder.now.width c.args.decoder.now.height screen c.whole.new.self c.feed.new.painter true xs old (g.P.Puts.updates c.put_event.new.publisher))
          (further stream c.args.piece.now c.split_at.result.1.now c.loop-used.used c.in_ok-used.field-0 c.split_at.ensures.back)
          (read_whole _ _ screen c.loop-used.decoder c.feed.new.self c.whole.new.self c.loop-used.painter c.feed.new.painter c.loop-used.between _ c.split_at.result.1.now old _ _ c.in_ok-used.field-0 c.whole.result c.in-Some.event
          (c.feed.ensures.size.0 ∙ inv.wide) (c.feed.ensures.size.1 ∙ inv.high) read feeds c.in-Some.is given.0 given.1 c.in_ok-put_event-in-Some.ensures.ok);
    }

pub loop-used-preserved : goal.loop-used-preserved
loop-used-preserved g c =
    let inv = c.loop-used.invariant in
    let fed = c.in_ok-used.ensures.feeds inv.can_read.screen inv.can_read.reading inv.can_read.reads in
    let used = uses_some c.loop-used.decoder c.feed.new.self c.loop-used.painter c.feed.new.painter inv.can_read.screen inv.can_read.reading c.split_at.result.1.now _ inv.can_read.wants (omega arith) fed in
    let gives = c.whole.ensures.given c.feed.new.painter _ _ fed.0 in
    record {
      within = omega (arith, used.1);
      wide = c.whole.ensures.size.0 ∙ (c.feed.ensures.size.0 ∙ inv.wide);
      high = c.whole.ensures.size.1 ∙ (c.feed.ensures.size.1 ∙ inv.high);
      painter = record { width = c.feed.ensures.size.2.width ∙ sym c.whole.ensures.size.0; height = c.feed.ensures.size.2.height ∙ sym c.whole.ensures.size.1 };
      publisher_wide = inv.publisher_wide;
      publisher_high = inv.publisher_high;
      can_read = can_open c.feed.new.self c.whole.new.self c.feed.new.painter _ _ c.whole.result c.in-None.is gives.0 fed.2 gives.1;
      has_read = λ screen stream old start.
          let read = inv.has_read screen stream old start in
          let feeds = c.in_ok-used.ensures.feeds _ _ read.reads in
          let given = c.whole.ensures.given c.feed.new.painter _ _ feeds.0 in
          subst (λ (xs : List ℕ). HasRead c.args.decoder.now.width c.args.decoder.now.height screen c.whole.new.self c.feed.new.painter false xs old (g.P.Puts.updates c.loop-used.publisher))
          (further stream c.args.piece.now c.split_at.result.1.now c.loop-used.used c.in_ok-used.field-0 c.split_at.ensures.back)
          (read_open _ _ screen c.loop-used.decoder c.feed.new.self c.whole.new.self c.loop-used.painter c.feed.new.painter c.loop-used.between _ c.split_at.result.1.now old _ c.in_ok-used.field-0 c.whole.result
          (omega arith) read feeds c.in-None.is given.0 given.1);
    }

pub returns-clause-puts : goal.returns-clause-puts
returns-clause-puts g c screen stream old start =
    let all = take_all c.loop-used.used c.args.piece.now (omega arith) in
    subst (λ (xs : List ℕ). HasRead c.args.decoder.now.width c.args.decoder.now.height screen c.loop-used.decoder c.loop-used.painter c.loop-used.between (stream ++ xs) old (g.P.Puts.updates c.loop-used.publisher)) all
    (c.loop-used.invariant.has_read screen stream old start)
