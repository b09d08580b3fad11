-- The visits of a place, as far as they have come. `serve_viewers` owes all of them.
use Rattle.std.proofs.Common.{◌≡◌, ℕ, Bool, true, false, List, [], ◌∷◌, Result, Err, refl, ap, subst, inl, inr}
use Rattle.fault.specs.declared.kinds.Fault.{Fault}
use Rattle.fault.specs.declared.kinds.Fault.TheVariants.{Memory}
use Rattle.raster.specs.Update.{Update}
use Rattle.roles.specs.Allowed.{Input}
use Rattle.roles.specs.declared.role.Role.{Role}
use Rattle.link.specs.Links.{LinkState}
use Rattle.run_traits.specs.Unused.{unused}
use Rattle.reflect_core.specs.Sequential.{Begins}
use Rattle.viewer_session.specs.Viewer.{Setup, new_viewer}
use Rattle.viewer_server.specs.Serving.{Serves}
use Rattle.reflector.specs.Visits.{At, at, IsReceived, AreVisits, IsVisiting, HasVisits}

-- A viewer whose link had done nothing was served.
pub received_served : {S : Type 0} (looks cuts : S → ℕ → S → Type 0) (may_end was_set : Type 0) (may_refuse : Fault → Type 0) (known : S → List Update) (s : Setup) (role : Role) (a b : S) (x y : List Input) (why : Result (Unit {0}) Fault) (old left : LinkState) → old ≡ unused
    → Serves looks cuts may_end was_set may_refuse a b (known b) s (new_viewer role true) x y why old left → Begins (known a) (known b) → IsReceived looks cuts may_end was_set may_refuse known s role a b x y why left
received_served looks cuts may_end was_set may_refuse known s role a b x y why old left fresh k grows =
    inl (record { serves = subst (λ (l : LinkState). Serves looks cuts may_end was_set may_refuse a b (known b) s (new_viewer role true) x y why l left) fresh k; grows = grows })

-- A viewer for which memory was refused was let go.
pub received_none : {S : Type 0} (looks cuts : S → ℕ → S → Type 0) (may_end was_set : Type 0) (may_refuse : Fault → Type 0) (known : S → List Update) (s : Setup) (role : Role) (a : S) (x : List Input) (fault : Fault) (left : LinkState) → fault ≡ Memory → left ≡ unused
    → IsReceived looks cuts may_end was_set may_refuse known s role a a x x (Err fault) left
received_none looks cuts may_end was_set may_refuse known s role a x fault left refused fresh = inr (record { memory = ap (λ f. Err f) refused; link = fresh; source = refl; sent = refl })

module _ {D S : Type 0} (lets_in : D → Bool → D → Type 0) (sees_off : D → LinkState → Result (Unit {0}) Fault → D → Type 0) (receives : S → S → List Input → List Input → Result (Unit {0}) Fault → LinkState → Type 0) where
  pub visiting_begins : (old : At D S) → IsVisiting lets_in sees_off receives old old
  visiting_begins old = ([], refl)

  pub visiting_on : (old before : At D S) (door met : D) (source : S) (sent : List Input) (left : LinkState) (why : Result (Unit {0}) Fault) → IsVisiting lets_in sees_off receives old before → lets_in before.door true met → receives before.source source before.sent sent why left
      → sees_off met left why door → IsVisiting lets_in sees_off receives old (at door source sent)
  visiting_on old before door met source sent left why k came received went = (before ∷ k.0, (k.1, record { met = met; left = left; why = why; came = came; received = received; went = went }))

  pub visits_stop : (old last : At D S) → IsVisiting lets_in sees_off receives old last → HasVisits lets_in sees_off receives old last
  visits_stop old last k = record { befores = k.0; last = last; visits = k.1; source = refl; sent = refl; door = inl refl }

  pub visits_end : (old last : At D S) (door : D) → IsVisiting lets_in sees_off receives old last → lets_in last.door false door → HasVisits lets_in sees_off receives old (at door last.source last.sent)
  visits_end old last door k none = record { befores = k.0; last = last; visits = k.1; source = refl; sent = refl; door = inr none }
