-- Looking for the last key moment that isn't later than a time.
use Rattle.std.proofs.Common.{◌≡◌, ℕ, suc, ◌+◌, ◌<◌, ◌≤◌, List, ◌∷◌, ◌++◌, length, take, drop, get_or, Some, sym, ap, subst, ◌∙◌, arith, length-drop}
use Rattle.std.specs.Prelude.{All}
use Rattle.std.proofs.Math.Seq.{drop-cons}
use Rattle.std.proofs.lemmas.List.{take-append-drop, get_or-drop}
use Rattle.recording_index.specs.IndexReading.{IsLastAt}
use Rattle.recording_index.specs.declared.moment.KeyMoment.{KeyMoment}

-- The one at this place isn't later, and all behind it are.
pub is_last : (moments : List KeyMoment) (time a : ℕ) (x : KeyMoment) → a < length moments → x ≡ get_or moments a x → x.time ≤ time
    → ((k : ℕ) → (d : KeyMoment) → a < k → k < length moments → time < (get_or moments k d).time) → IsLastAt moments time (Some x)
is_last moments time a x lt is early later =
    let parted : moments ≡ take a moments ++ x ∷ drop (suc a) moments = sym (take-append-drop a moments) ∙ ap (λ (xs : List KeyMoment). take a moments ++ xs) (drop-cons moments a x lt ∙ ap (λ (y : KeyMoment). y ∷ drop (suc a) moments) (sym is)) in
    let behind : All (λ m. time < m.time) (drop (suc a) moments)
    = λ k d less. subst (λ (y : KeyMoment). time < y.time) (sym (get_or-drop (suc a) moments k d)) (later (suc a + k) d (omega arith) (omega (arith, less, length-drop (suc a) moments))) in
    (take a moments, drop (suc a) moments, parted, early, behind)
