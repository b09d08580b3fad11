-- The links of a place's visits, one after another, in plain words (own).
use Rattle.std.specs.Prelude.{◌≡◌, List, [], ◌∷◌, Result}
use Rattle.fault.specs.declared.kinds.Fault.{Fault}
use Rattle.roles.specs.Allowed.{Input}
use Rattle.link.specs.Links.{LinkState}
use Rattle.run_traits.specs.Unused.{unused}

-- One viewer after another was received over these links: each as it came, unused, and then as it was left. Between two
-- viewers the source, and what the place has sent, stay as they are.
abbrev pub AreReceivedOver : {S : Type 0} → (receives : S → S → List Input → List Input → Result (Unit {0}) Fault → LinkState → Type 0) → (source_old : S) → (sent_old : List Input) → List LinkState → (source_new : S) → (sent_new : List Input) → Type 0
AreReceivedOver {S} receives source_old sent_old [] source_new sent_new = (source_new ≡ source_old) × (sent_new ≡ sent_old)
AreReceivedOver {S} receives source_old sent_old (came ∷ []) source_new sent_new = ⊥
AreReceivedOver {S} receives source_old sent_old (came ∷ left ∷ links) source_new sent_new =
    (came ≡ unused) × (source : S) × (sent : List Input) × (why : Result (Unit {0}) Fault) × receives source_old source sent_old sent why left × AreReceivedOver receives source sent links source_new sent_new
