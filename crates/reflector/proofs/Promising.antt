-- The visits of a place keep its promise over each longer list. The thread of a place owes that.
use Rattle.std.proofs.Common.{◌≡◌, ◌≤◌, ℕ, Bool, true, List, [], ◌∷◌, ◌++◌, Result, refl, sym, ap, subst, ◌∙◌, append-nil, inl, inr}
use Rattle.std.specs.Prelude.{drop}
use Rattle.std.proofs.lemmas.List.{take-append-drop}
use Rattle.fault.specs.declared.kinds.Fault.{Fault}
use Rattle.raster.specs.Update.{Update}
use Rattle.roles.specs.Allowed.{Input, allowed}
use Rattle.roles.specs.declared.role.Role.{Role}
use Rattle.link.specs.Links.{LinkState}
use Rattle.reflect_core.specs.Sequential.{Begins}
use Rattle.viewer_session.specs.Acts.{Act, viewer_after}
use Rattle.viewer_session.specs.Record.{messages_in}
use Rattle.viewer_session.specs.Viewer.{Setup, Viewer, new_viewer, out_bytes}
use Rattle.viewer_session.proofs.Parts.{begins_on}
use Rattle.viewer_session.proofs.Passing.{role_after}
use Rattle.viewer_server.specs.Serving.{AllMayBe, EachAnswerHolds, bytes_in, Serves}
use Rattle.viewer_server.proofs.Following.{holds_after_each_answer}
use Rattle.viewer_server.proofs.Servings.{after_same, all_more}
use Rattle.reflector.specs.Visits.{At, AreVisits, HasVisits, Visit, IsReceived, IsServed, IsLetGo}
use Rattle.reflector.specs.Promise.{IsServedWhole, KeepsPromise}
use Rattle.reflector.proofs.Growing.{grows_received}

-- ---- one visit

-- A viewer that was served was served whole, over each longer list.
served_whole : {S : Type 0} (looks cuts : S → ℕ → S → Type 0) (may_end was_set : Type 0) (may_refuse : Fault → Type 0) (known : S → List Update) (s : Setup) (role : Role) (us : List Update) (a b : S) (x y : List Input) (why : Result (Unit {0}) Fault) (left : LinkState)
    → s.w ≤ 4096 → s.h ≤ 4096 → IsServed looks cuts may_end was_set may_refuse known s role a b x y why left → Begins (known b) us → IsServedWhole us s role x y left
served_whole looks cuts may_end was_set may_refuse known s role us a b x y why left lw lh k more =
    let acts : List Act = k.serves.acts in
    let first : Viewer = new_viewer role true in
    let mine : Viewer = viewer_after s (known b) first acts in
    let all : AllMayBe s us first acts = all_more s (known b) us first acts more k.serves.may_be in
    let same : viewer_after s us first acts ≡ mine = after_same s (known b) us first acts more k.serves.may_be in
    record {
      acts = acts;
      may_be = all;
      taken = (k.serves.left, k.serves.taken);
      given = subst (λ (p : Viewer). Begins left.given (out_bytes s p)) (sym same)
          (drop mine.written (out_bytes s mine), sym (take-append-drop mine.written (out_bytes s mine)) ∙ ap (λ bs. bs ++ drop mine.written (out_bytes s mine)) (sym k.serves.given));
      holds = holds_after_each_answer s lw lh us role true acts all;
      sent = k.serves.relays.sent;
      took = k.serves.relays.took;
      begins =
          subst (λ (r : Role). Begins k.serves.relays.sent (allowed r (messages_in (viewer_after s us first acts).entries) true)) (role_after s us first acts)
          (subst (λ (p : Viewer). Begins k.serves.relays.sent (allowed p.role (messages_in p.entries) true)) (sym same) k.serves.relays.begins);
    }

-- And so was one that was let go: nothing was done for it.
let_go_whole : {S : Type 0} (s : Setup) (role : Role) (us : List Update) (a b : S) (x y : List Input) (why : Result (Unit {0}) Fault) (left : LinkState) → s.w ≤ 4096 → s.h ≤ 4096 → IsLetGo a b x y why left → IsServedWhole us s role x y left
let_go_whole s role us a b x y why left lw lh k =
    record {
      acts = [];
      may_be = tt;
      taken = (left.taken, refl);
      given = subst (λ (l : LinkState). Begins l.given (out_bytes s (new_viewer role true))) (sym k.link) (_, refl);
      holds = holds_after_each_answer s lw lh us role true [] tt;
      sent = [];
      took = k.sent ∙ sym (append-nil x);
      begins = (_, refl);
    }

pub received_whole : {S : Type 0} (looks cuts : S → ℕ → S → Type 0) (may_end was_set : Type 0) (may_refuse : Fault → Type 0) (known : S → List Update) (s : Setup) (role : Role) (us : List Update) (a b : S) (x y : List Input) (why : Result (Unit {0}) Fault) (left : LinkState)
    → s.w ≤ 4096 → s.h ≤ 4096 → IsReceived looks cuts may_end was_set may_refuse known s role a b x y why left → Begins (known b) us → IsServedWhole us s role x y left
received_whole looks cuts may_end was_set may_refuse known s role us a b x y why left lw lh (inl k) more = served_whole looks cuts may_end was_set may_refuse known s role us a b x y why left lw lh k more
received_whole looks cuts may_end was_set may_refuse known s role us a b x y why left lw lh (inr k) more = let_go_whole s role us a b x y why left lw lh k

-- ---- all visits

module _ {D S : Type 0} (lets_in : D → Bool → D → Type 0) (sees_off : D → LinkState → Result (Unit {0}) Fault → D → Type 0) (known : S → List Update) (receives keeps : S → S → List Input → List Input → Result (Unit {0}) Fault → LinkState → Type 0) (us : List Update)
    (grow : (a b : S) (x y : List Input) (why : Result (Unit {0}) Fault) (left : LinkState) → receives a b x y why left → Begins (known a) (known b))
    (keep : (a b : S) (x y : List Input) (why : Result (Unit {0}) Fault) (left : LinkState) → receives a b x y why left → Begins (known b) us → keeps a b x y why left) where
  visits_keep : (old : At D S) (befores : List (At D S)) (last : At D S) → AreVisits lets_in sees_off receives old befores last → Begins (known last.source) us → AreVisits lets_in sees_off keeps old befores last
  visits_keep old [] last k more = k
  visits_keep old (before ∷ befores) last k more =
      let visit : Visit lets_in sees_off receives before last = k.1 in (
        visits_keep old befores before k.0 (begins_on _ _ _ (grow _ _ _ _ _ _ visit.received) more),
        record { met = visit.met; left = visit.left; why = visit.why; came = visit.came; received = keep _ _ _ _ _ _ visit.received more; went = visit.went },
      )

  pub has_kept : (old new : At D S) → HasVisits lets_in sees_off receives old new → Begins (known new.source) us → HasVisits lets_in sees_off keeps old new
  has_kept old new k more =
      record {
        befores = k.befores;
        last = k.last;
        visits = visits_keep old k.befores k.last k.visits (subst (λ (a : S). Begins (known a) us) k.source more);
        source = k.source;
        sent = k.sent;
        door = k.door;
      }

pub keeps_promise : {D S : Type 0} (lets_in : D → Bool → D → Type 0) (sees_off : D → LinkState → Result (Unit {0}) Fault → D → Type 0) (looks cuts : S → ℕ → S → Type 0) (may_end was_set : Type 0) (may_refuse : Fault → Type 0) (known : S → List Update) (s : Setup) (role : Role)
    (old new : At D S) → s.w ≤ 4096 → s.h ≤ 4096
    → HasVisits lets_in sees_off (λ source_old source_new sent_old sent_new why left. IsReceived looks cuts may_end was_set may_refuse known s role source_old source_new sent_old sent_new why left) old new → KeepsPromise lets_in sees_off known s role old new
keeps_promise lets_in sees_off looks cuts may_end was_set may_refuse known s role old new lw lh k us more =
    has_kept lets_in sees_off known (IsReceived looks cuts may_end was_set may_refuse known s role) (λ source_old source_new sent_old sent_new why left. IsServedWhole us s role sent_old sent_new left) us
    (λ a b x y why left r. grows_received looks cuts may_end was_set may_refuse known s role a b x y why left r) (λ a b x y why left r m. received_whole looks cuts may_end was_set may_refuse known s role us a b x y why left lw lh r m) old new k more
