-- What the hosts were told, as far as it has come. The steps of a teller and `tell_each` owe it.
use Rattle.std.proofs.Common.{◌≡◌, ℕ, ◌<◌, List, [], ◌∷◌, ◌++◌, Result, length, slice_index_or, sym, ap, subst, ◌∙◌, append_assoc}
use Rattle.std.specs.Prelude.{⊤}
use Rattle.std.specs.List.{All}
use Rattle.fault.specs.declared.kinds.Fault.{Fault}
use Rattle.roles.specs.Strokes.{StrokesKept, StrokesStand}
use Rattle.link.specs.Links.{LinkState}
use Rattle.run_traits.specs.Unused.{unused}
use Rattle.host_writer.specs.Writing.{Tells}
use Rattle.input_relay.specs.declared.queue.Message.{Message}
use Rattle.reflector.specs.Tellings.{Desk, desk, AreTellings, IsTelling, HasTold, TellsHosts}

-- A link was noted as it came, and then as it was left.
pub noted_twice : (before met links : List LinkState) (came left : LinkState) → met ≡ before ++ unused ∷ [] → came ≡ unused → links ≡ met ++ left ∷ [] → links ≡ before ++ came ∷ left ∷ []
noted_twice before met links came left first fresh then_ =
    then_ ∙ (ap (λ ls. ls ++ left ∷ []) (first ∙ ap (λ c. before ++ c ∷ []) (sym fresh)) ∙ append_assoc before (came ∷ []) (left ∷ []))

module _ {S : Type 0} (looks : S → ℕ → S → Type 0) (width height : S → ℕ) where
  -- No host was told yet.
  pub telling_begins : (old : Desk S) (links : List LinkState) (source : S) (taken : List Message) (strokes : StrokesKept) → links ≡ [] → source ≡ old.source → taken ≡ old.taken → strokes ≡ old.strokes → old.links ≡ [] → IsTelling looks width height old (desk links source taken strokes)
  telling_begins old links source taken strokes none a b c first =
      ([], ap (λ ls. desk ls source taken strokes) (none ∙ sym first) ∙ (ap (λ s. desk old.links s taken strokes) a ∙ (ap (λ t. desk old.links old.source t strokes) b ∙ ap (λ k. desk old.links old.source old.taken k) c)))

  -- A link came, and was left.
  pub telling_on : (old before : Desk S) (links : List LinkState) (source : S) (taken : List Message) (strokes : StrokesKept) (came left : LinkState) (answer : Result (Unit {0}) Fault) → IsTelling looks width height old before → came ≡ unused
      → Tells looks ⊤ before.source source before.taken taken before.strokes strokes (width before.source) (height before.source) answer came left → links ≡ before.links ++ came ∷ left ∷ [] → IsTelling looks width height old (desk links source taken strokes)
  telling_on old before links source taken strokes came left answer k fresh writes noted =
      (before ∷ k.0, (k.1, record { came = came; left = left; answer = answer; links = noted; fresh = fresh; writes = writes }))

  -- No other came.
  pub told_all : (old : Desk S) (links : List LinkState) (source : S) (taken : List Message) (strokes : StrokesKept) (now : List LinkState) → IsTelling looks width height old (desk links source taken strokes) → now ≡ links → HasTold looks width height old now taken strokes
  told_all old links source taken strokes now k same = record { befores = k.0; source = source; tellings = subst (λ (ls : List LinkState). AreTellings looks width height old k.0 (desk ls source taken strokes)) (sym same) k.1 }

  -- A run began with nothing taken.
  pub tells_hosts : (source : S) (links : List LinkState) (began taken : List Message) (strokes left : StrokesKept) → began ≡ [] → StrokesStand strokes [] → HasTold looks width height (desk [] source began strokes) links taken left
      → TellsHosts looks width height source links taken left
  tells_hosts source links began taken strokes left none down k =
      record { began = strokes; none_down = down; told = subst (λ (m : List Message). HasTold looks width height (desk [] source m strokes) links taken left) none k }

  -- All are so, and the first of them is the one.
  pub tells_from : (sources : List S) (w source : S) (links : List LinkState) (taken : List Message) (strokes : StrokesKept) → All (λ s. s ≡ w) sources → 0 < length sources → source ≡ slice_index_or sources 0 source → TellsHosts looks width height source links taken strokes
      → TellsHosts looks width height w links taken strokes
  tells_from sources w source links taken strokes all some first k = subst (λ (s : S). TellsHosts looks width height s links taken strokes) (first ∙ all 0 source some) k
