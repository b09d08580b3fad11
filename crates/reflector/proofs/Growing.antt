-- What the source of a place knows only grows, from visit to visit.
use Rattle.std.proofs.Common.{ℕ, Bool, List, [], ◌∷◌, Result, ap, sym, ◌∙◌, append-nil, inl, inr}
use Rattle.fault.specs.declared.kinds.Fault.{Fault}
use Rattle.raster.specs.Update.{Update}
use Rattle.roles.specs.Allowed.{Input}
use Rattle.roles.specs.declared.role.Role.{Role}
use Rattle.link.specs.Links.{LinkState}
use Rattle.reflect_core.specs.Sequential.{Begins}
use Rattle.viewer_session.specs.Viewer.{Setup}
use Rattle.viewer_session.proofs.Parts.{begins_on}
use Rattle.reflector.specs.Visits.{At, IsReceived, AreVisits, AllBegin}

pub grows_received : {S : Type 0} (looks cuts : S → ℕ → S → Type 0) (may_end was_set : Type 0) (may_refuse : Fault → Type 0) (known : S → List Update) (s : Setup) (role : Role) (a b : S) (x y : List Input) (why : Result (Unit {0}) Fault) (left : LinkState)
    → IsReceived looks cuts may_end was_set may_refuse known s role a b x y why left → Begins (known a) (known b)
grows_received looks cuts may_end was_set may_refuse known s role a b x y why left (inl k) = k.grows
grows_received looks cuts may_end was_set may_refuse known s role a b x y why left (inr k) = ([], ap known k.source ∙ sym (append-nil (known a)))

begin_more : {D S : Type 0} (known : S → List Update) (befores : List (At D S)) (last new : At D S) → AllBegin known befores last → Begins (known last.source) (known new.source) → AllBegin known befores new
begin_more known [] last new k more = tt
begin_more known (before ∷ befores) last new k more = (begins_on _ _ _ k.0 more, begin_more known befores last new k.1 more)

pub all_begin : {D S : Type 0} (lets_in : D → Bool → D → Type 0) (sees_off : D → LinkState → Result (Unit {0}) Fault → D → Type 0) (receives : S → S → List Input → List Input → Result (Unit {0}) Fault → LinkState → Type 0) (known : S → List Update)
    → ((a b : S) (x y : List Input) (why : Result (Unit {0}) Fault) (left : LinkState) → receives a b x y why left → Begins (known a) (known b))
    → (old : At D S) (befores : List (At D S)) (last : At D S) → AreVisits lets_in sees_off receives old befores last → AllBegin known befores last
all_begin lets_in sees_off receives known grow old [] last k = tt
all_begin lets_in sees_off receives known grow old (before ∷ befores) last k =
    let more : Begins (known before.source) (known last.source) = grow _ _ _ _ _ _ k.1.received in
    (more, begin_more known befores before last (all_begin lets_in sees_off receives known grow old befores before k.0) more)
