-- More of the opening has come, or it isn't one of ours.
use Rattle.std.proofs.Common.{◌≡◌, ◌++◌, ℕ, false, List, take, drop, sym, subst}
use Rattle.recording.specs.Recording.{Block}
use Rattle.playback.specs.Openings.{GoesOn, IsNoOpening}
use Rattle.playback.specs.Playing.{Played, IsGoing, IsDue}
use Rattle.playback.proofs.Playing.{opens, refuses, refuses_same, due_is, still_wants}
use Rattle.playback.proofs.played.PlayedLink.hear.Goals as goal

pub feed-requires-clause-begun : goal.feed-requires-clause-begun
feed-requires-clause-begun g c =
    let l = c.self.inside in
    let old : Played = record { reel = l.reel; until = l.until; key = l.key; hello = l.hello; opening = l.opening; sent = l.sent; used = l.used; time = l.time; taken = l.taken.bytes; given = l.given.bytes; failed = l.failures; ended = l.ends; is_over = l.is_over; why = l.why } in
    let closed : old.opening.is_open ≡ false = subst (λ (p : Played). p.opening.is_open ≡ false) (sym c.self.view_is) c.requires.closed in
    still_wants g.P.Pace.has_come g.F.Recorded.is_all g.F.Recorded.has_failed old c.self.invariant.3 closed

pub invariant_of-self : goal.invariant_of-self
invariant_of-self g c =
    let l = c.self.inside in
    let old : Played = record { reel = l.reel; until = l.until; key = l.key; hello = l.hello; opening = l.opening; sent = l.sent; used = l.used; time = l.time; taken = l.taken.bytes; given = l.given.bytes; failed = l.failures; ended = l.ends; is_over = l.is_over; why = l.why } in
    let block : Block = record { said = c.in-Some-Ok.block.said.now; time = c.in-Some-Ok.block.time } in
    let here = rw c.in-Some-Ok.field-0-is at c.in-Some-Ok.ensures in
    let start : ℕ = c.min-start.result in
    let going : IsGoing old = subst IsGoing (sym c.self.view_is) c.requires.going in
    let closed : old.opening.is_open ≡ false = subst (λ (p : Played). p.opening.is_open ≡ false) (sym c.self.view_is) c.requires.closed in
    let due : IsDue g.P.Pace.has_come old = subst (IsDue g.P.Pace.has_come) (sym c.self.view_is) c.requires.due in
    let is = due_is g.P.Pace.has_come old block here due in
    let goes : GoesOn c.feed.new.self.is_open l.opening.begun c.feed.new.self.begun (take c.in-Ok.count (drop start block.said)) =
    subst (λ (xs : List ℕ). GoesOn c.feed.new.self.is_open l.opening.begun c.feed.new.self.begun (take c.in-Ok.count xs)) c.split_at.ensures.back c.in-Ok.ensures.goes_on in (
      c.self.invariant.0,
      c.self.invariant.1,
      c.self.invariant.2,
      opens g.P.Pace.has_come g.F.Recorded.is_all g.F.Recorded.has_failed old c.feed.new.self block start c.in-Ok.count c.self.invariant.3 going closed goes
          (sym here) is.0 is.1 c.min-start.ensures,
      c.self.invariant.4,
    )

pub invariant_of-self-in-Err : goal.invariant_of-self-in-Err
invariant_of-self-in-Err g c =
    let l = c.self.inside in
    let old : Played = record { reel = l.reel; until = l.until; key = l.key; hello = l.hello; opening = l.opening; sent = l.sent; used = l.used; time = l.time; taken = l.taken.bytes; given = l.given.bytes; failed = l.failures; ended = l.ends; is_over = l.is_over; why = l.why } in
    let block : Block = record { said = c.in-Some-Ok.block.said.now; time = c.in-Some-Ok.block.time } in
    let here = rw c.in-Some-Ok.field-0-is at c.in-Some-Ok.ensures in
    let start : ℕ = c.min-start.result in
    let closed : old.opening.is_open ≡ false = subst (λ (p : Played). p.opening.is_open ≡ false) (sym c.self.view_is) c.requires.closed in
    let due : IsDue g.P.Pace.has_come old = subst (IsDue g.P.Pace.has_come) (sym c.self.view_is) c.requires.due in
    let is = due_is g.P.Pace.has_come old block here due in
    let why = c.in-Err.why in
    let refused : IsNoOpening why (l.opening.begun ++ drop start block.said) = subst (λ (xs : List ℕ). IsNoOpening why (l.opening.begun ++ xs)) c.split_at.ensures.back c.in-Err.ensures.refused in
    let same : c.feed.new.self ≡ l.opening = c.in-Err.ensures.same in
    let all = refuses g.P.Pace.has_come g.F.Recorded.is_all g.F.Recorded.has_failed old why block start c.self.invariant.3 closed refused (sym here) is.0 c.min-start.ensures in
    (c.self.invariant.0, c.self.invariant.1, c.self.invariant.2, refuses_same g.P.Pace.has_come g.F.Recorded.is_all g.F.Recorded.has_failed old c.feed.new.self why same all, c.self.invariant.4)
