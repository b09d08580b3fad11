-- A place of viewers that only look on sends nothing: nothing of their input is allowed. `join_place` tells it, and
-- `show_viewers` owes it.
use Rattle.std.proofs.Common.{◌≡◌, ◌≤◌, Bool, true, List, [], ◌∷◌, ◌++◌, length, ℕ, Result, refl, ap, subst, ◌∙◌, append-nil, arith}
use Rattle.fault.specs.declared.kinds.Fault.{Fault}
use Rattle.raster.specs.Update.{Update}
use Rattle.roles.specs.Allowed.{Input, allowed}
use Rattle.roles.specs.declared.role.Role.{Role}
use Rattle.roles.specs.declared.role.Role.TheVariants.{View}
use Rattle.link.specs.Links.{LinkState}
use Rattle.reflect_core.specs.Sequential.{Begins}
use Rattle.viewer_session.specs.Acts.{viewer_after}
use Rattle.viewer_session.specs.Record.{messages_in}
use Rattle.viewer_session.specs.Viewer.{Setup, new_viewer}
use Rattle.viewer_session.proofs.Parts.{begins_same}
use Rattle.reflector.specs.Visits.{At, AreVisits, HasVisits, IsReceived, at}
use Rattle.reflector.specs.Promise.{IsServedWhole}
use Rattle.reflector.proofs.Promising.{keeps_promise}

-- What begins nothing is nothing.
begins_nothing : {X : Type 0} (xs : List X) → Begins xs [] → xs ≡ []
begins_nothing [] k = refl
begins_nothing (x ∷ xs) k = absurd (omega (arith, ap length k.1))

visit_sends_nothing : (us : List Update) (s : Setup) (role : Role) (x y : List Input) (left : LinkState) → role ≡ View → IsServedWhole us s role x y left → y ≡ x
visit_sends_nothing us s role x y left looks_on k =
    let nothing : Begins k.sent [] = subst (λ (r : Role). Begins k.sent (allowed r (messages_in (viewer_after s us (new_viewer role true) k.acts).entries) true)) looks_on k.begins in
    k.took ∙ (ap (λ sent. x ++ sent) (begins_nothing k.sent nothing) ∙ append-nil x)

module _ {D S : Type 0} (lets_in : D → Bool → D → Type 0) (sees_off : D → LinkState → Result (Unit {0}) Fault → D → Type 0) (us : List Update) (s : Setup) (role : Role) (looks_on : role ≡ View) where
  visits_send_nothing : (old : At D S) (befores : List (At D S)) (last : At D S) → AreVisits lets_in sees_off (λ source_old source_new sent_old sent_new why left. IsServedWhole us s role sent_old sent_new left) old befores last → last.sent ≡ old.sent
  visits_send_nothing old [] last k = ap (λ (a : At D S). a.sent) k
  visits_send_nothing old (before ∷ befores) last k = visit_sends_nothing us s role _ _ k.1.left looks_on k.1.received ∙ visits_send_nothing old befores before k.0

  pub sends_nothing : (old new : At D S) → HasVisits lets_in sees_off (λ source_old source_new sent_old sent_new why left. IsServedWhole us s role sent_old sent_new left) old new → new.sent ≡ old.sent
  sends_nothing old new k = k.sent ∙ visits_send_nothing old k.befores k.last k.visits

pub looks_on : {D S : Type 0} (lets_in : D → Bool → D → Type 0) (sees_off : D → LinkState → Result (Unit {0}) Fault → D → Type 0) (looks cuts : S → ℕ → S → Type 0) (may_end was_set : Type 0) (may_refuse : Fault → Type 0) (known : S → List Update) (s : Setup) (role : Role)
    (old new : At D S) → s.w ≤ 4096 → s.h ≤ 4096 → role ≡ View → HasVisits lets_in sees_off (λ source_old source_new sent_old sent_new why left. IsReceived looks cuts may_end was_set may_refuse known s role source_old source_new sent_old sent_new why left) old new
    → HasVisits lets_in sees_off (λ source_old source_new sent_old sent_new why left. IsReceived looks cuts may_end was_set may_refuse known s role source_old source_new sent_old sent_new why left) old (at new.door new.source old.sent)
looks_on lets_in sees_off looks cuts may_end was_set may_refuse known s role old new lw lh view k =
    let promise = keeps_promise lets_in sees_off looks cuts may_end was_set may_refuse known s role old new lw lh k in
    subst (λ (sent : List Input). HasVisits lets_in sees_off (λ source_old source_new sent_old sent_new why left. IsReceived looks cuts may_end was_set may_refuse known s role source_old source_new sent_old sent_new why left) old (at new.door new.source sent))
    (sends_nothing lets_in sees_off (known new.source) s role view old new (promise (known new.source) (begins_same _))) k
