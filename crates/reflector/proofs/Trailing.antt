-- The visits of a place whose door keeps a trail are over the links of that trail.
use Rattle.std.proofs.Common.{◌≡◌, ◌⊎◌, Bool, true, false, List, [], ◌∷◌, ◌++◌, Result, refl, sym, ap, subst, inl, inr, ◌∙◌, append_assoc, append-nil}
use Rattle.fault.specs.declared.kinds.Fault.{Fault}
use Rattle.roles.specs.Allowed.{Input}
use Rattle.link.specs.Links.{LinkState}
use Rattle.run_traits.specs.Trails.{KeepsTrail}
use Rattle.run_traits.specs.Unused.{unused}
use Rattle.reflector.specs.Links.{AreReceivedOver}
use Rattle.reflector.specs.Visits.{At, AreVisits, HasVisits}

module _ {D S : Type 0} (lets_in : D → Bool → D → Type 0) (sees_off : D → LinkState → Result (Unit {0}) Fault → D → Type 0) (receives : S → S → List Input → List Input → Result (Unit {0}) Fault → LinkState → Type 0) where
  -- One viewer more.
  received_on : (a : S) (x : List Input) (links : List LinkState) (b : S) (y : List Input) (c : S) (z : List Input) (why : Result (Unit {0}) Fault) (left : LinkState) → AreReceivedOver receives a x links b y → receives b c y z why left
      → AreReceivedOver receives a x (links ++ unused ∷ left ∷ []) c z
  received_on a x [] b y c z why left k r = (refl, c, z, why, subst (λ (s : S). receives s c x z why left) k.0 (subst (λ (sent : List Input). receives b c sent z why left) k.1 r), (refl, refl))
  received_on a x (came ∷ []) b y c z why left k r = absurd k
  received_on a x (came ∷ gone ∷ links) b y c z why left k r = (k.0, k.1, k.2, k.3, k.4, received_on k.1 k.2 links b y c z why left k.5 r)

  module _ (trail : D → List LinkState) (keeps : KeepsTrail lets_in sees_off trail) where
    -- From the old state of the place to this one viewers were received over links that the trail has.
    abbrev pub IsOver : (old last : At D S) → Type 0
    IsOver old last = (links : List LinkState) × (trail last.door ≡ trail old.door ++ links) × AreReceivedOver receives old.source old.sent links last.source last.sent

    visits_over : (old : At D S) (befores : List (At D S)) (last : At D S) → AreVisits lets_in sees_off receives old befores last → IsOver old last
    visits_over old [] last k = ([], ap (λ (a : At D S). trail a.door) k ∙ sym (append-nil _), (ap (λ (a : At D S). a.source) k, ap (λ (a : At D S). a.sent) k))
    visits_over old (before ∷ befores) last k =
        let over = visits_over old befores before k.0 in let visit = k.1 in
        let met = keeps.came before.door visit.met visit.came in
        let gone = keeps.left visit.met last.door visit.left visit.why visit.went in (
          over.0 ++ unused ∷ visit.left ∷ [],
          gone ∙ ap (λ ls. ls ++ visit.left ∷ []) (met ∙ ap (λ ls. ls ++ unused ∷ []) over.1) ∙ append_assoc (trail old.door ++ over.0) (unused ∷ []) (visit.left ∷ []) ∙ append_assoc (trail old.door) over.0 (unused ∷ visit.left ∷ []),
          received_on old.source old.sent over.0 before.source before.sent last.source last.sent visit.why visit.left over.2 visit.received,
        )

    last_noted : (last new : At D S) → (new.door ≡ last.door) ⊎ lets_in last.door false new.door → trail new.door ≡ trail last.door
    last_noted last new (inl same) = ap trail same
    last_noted last new (inr none) = keeps.none last.door new.door none

    pub all_over : (old new : At D S) → HasVisits lets_in sees_off receives old new → IsOver old new
    all_over old new k =
        let over = visits_over old k.befores k.last k.visits in
        (over.0, last_noted k.last new k.door ∙ over.1, subst (λ (s : S). AreReceivedOver receives old.source old.sent over.0 s new.sent) (sym k.source) (subst (λ (sent : List Input). AreReceivedOver receives old.source old.sent over.0 k.last.source sent) (sym k.sent) over.2))
