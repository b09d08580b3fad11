-- Some of the block at hand is handed out.
use Rattle.std.proofs.Common.{◌≡◌, ◌≤◌, ◌++◌, ℕ, true, List, take, drop, sym, ap, subst, ◌∙◌, arith}
use Rattle.std.proofs.lemmas.List.{take-take}
use Rattle.std.specs.Prelude.{not, is_some, ◌&&◌}
use Rattle.recording.specs.Recording.{Block}
use Rattle.recording.specs.Waiting.{stamp}
use Rattle.playback.specs.Playing.{Played, IsGoing, IsDue, HasHandshake}
use Rattle.playback.proofs.Playing.{says, due_is}
use Rattle.playback.proofs.played.PlayedLink.say_block.Goals as goal

pub invariant_of-self : goal.invariant_of-self
invariant_of-self g c =
    let l = c.self.inside in
    let old : Played = record { reel = l.reel; until = l.until; key = l.key; hello = l.hello; opening = l.opening; sent = l.sent; used = l.used; time = l.time; taken = l.taken.bytes; given = l.given.bytes; failed = l.failures; ended = l.ends; is_over = l.is_over; why = l.why } in
    let block : Block = record { said = c.in-Some-Ok.block.said.now; time = c.in-Some-Ok.block.time } in
    let here = rw c.in-Some-Ok.field-0-is at c.in-Some-Ok.ensures in
    let start : ℕ = c.min-start.result in
    let count : ℕ = c.fitting-count.result in
    let copied : ℕ = c.copy_front-copied.result in
    let front : List ℕ = c.split_at-2.result.0.now in
    let going : IsGoing old = subst IsGoing (sym c.self.view_is) c.requires.going in
    let open_now : old.opening.is_open ≡ true = subst (λ (p : Played). p.opening.is_open ≡ true) (sym c.self.view_is) c.requires.open in
    let greeted : old.sent ≡ 18 = subst (λ (p : Played). p.sent ≡ 18) (sym c.self.view_is) c.requires.greeted in
    let due : IsDue g.P.Pace.has_come old = subst (IsDue g.P.Pace.has_come) (sym c.self.view_is) c.requires.due in
    let is = due_is g.P.Pace.has_come old block here due in
    let left : front ≡ take copied (drop start block.said) = c.split_at-2.ensures.front ∙ (c.copy_front-copied.ensures.front ∙ ap (take copied) c.split_at.ensures.back) in
    let fits : count ≤ copied = omega (arith, c.fitting-count.ensures.count, c.split_at-2.ensures.front_len) in
    let bytes : take count front ≡ take count (drop start block.said) = ap (take count) left ∙ take-take count copied (drop start block.said) fits in
    let said : c.note.new.self.bytes ≡ l.taken.bytes ++ take count (drop start block.said) = c.note.ensures ∙ ap (λ (xs : List ℕ). l.taken.bytes ++ xs) (c.split_at-3.ensures.front ∙ bytes) in
    let key : c.is_front-is_front.result ≡ (not l.reel.is_behind && is_some l.key) = subst (λ (p : Played). c.is_front-is_front.result ≡ (not p.reel.is_behind && is_some p.key)) (sym c.self.view_is) c.is_front-is_front.ensures in (
      c.self.invariant.0,
      c.self.invariant.1,
      c.self.invariant.2,
      says g.P.Pace.has_come g.F.Recorded.is_all g.F.Recorded.has_failed old c.fitting-count.new.hello block start count c.note.new.self.bytes c.self.invariant.3 going open_now greeted
          (sym here) is.0 is.1 c.min-start.ensures said
          (λ e played time has. subst (λ (xs : List ℕ). HasHandshake c.fitting-count.new.hello (played ++ stamp time xs)) bytes (c.fitting-count.ensures.front (key ∙ e) played time has)),
      c.self.invariant.4,
    )
