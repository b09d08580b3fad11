-- The exchange that adds a change keeps the rule. So a put and a raise are one step each.
use Rattle.std.proofs.Common.{◌≡◌, ℕ, ◌+◌, ◌<◌, ◌==◌, Bool, true, false, List, [], ◌∷◌, ◌++◌, length, refl, ap, sym, subst, arith, inr, length-append, None, Some}
use Rattle.std.proofs.lemmas.List.{append-nil}
use Rattle.std.proofs.lemmas.Bool.Decides.{nat_tests}
use mathlib.Core.List.{IsPrefix}
use prog.Atomic.{either}
use Rattle.logbook.specs.Pages.{Cell, cell, keeps, no_nib, step, Moves, Goes}
use Rattle.raster.specs.Update.{Update}
use Rattle.shared_screen.specs.History.{Change, IsLegal, IsBacked}
use Rattle.shared_screen.specs.Law.{IsKept, Adds}
use Rattle.shared_screen.specs.Shares.{IsMove}
use Rattle.shared_screen.proofs.Beginnings.{begins_of, begins_whole}

-- A history that the rule allows.
abbrev pub IsAllowed : (List Update → Type 0) → List Change → Type 0
IsAllowed published log = IsLegal log × IsBacked published log

adds_goes : (published : List Update → Type 0) (log v : List Change) (e : Change) (old : ℕ) → length v ≡ old → IsAllowed published (v ++ e ∷ []) → IsAllowed published log → IsPrefix v log
    → (b : Bool) → (length log == old) ≡ b
    → Goes (IsKept published) (λ xs. xs) IsMove 0 (v, (no_nib, None)) (λ n. either (n == old) (old + 1) n) (Adds published (step 0 old (old + 1) e) (v, (no_nib, None))) ((length log, true) ∷ (0, true) ∷ []) log
adds_goes published log v e old len may stood pre true is =
    let here : length log ≡ old = grind (arith, nat_tests) in
    let same : v ≡ log = begins_whole v log (begins_of v log pre) (omega arith) in
    let stands : IsAllowed published (log ++ e ∷ []) = subst (λ (l : List Change). IsAllowed published (l ++ e ∷ [])) same may in
    let n : either (length log == old) (old + 1) (length log) ≡ length (log ++ e ∷ []) = rw is (omega (arith, length-append log (e ∷ []))) in (
      keeps,
      e ∷ [],
      Some (length log, length (log ++ e ∷ [])),
      tt,
      record { words = ap (λ (k : ℕ). (k, true) ∷ (0, true) ∷ []) n; legal = stands.0; backed = stands.1 },
      inr ((length log, length (log ++ e ∷ [])), refl, refl, refl),
      (refl, stands, λ _. ap (λ w. w ++ e ∷ []) (sym same)),
    )
adds_goes published log v e old len may stood pre false is =
    let all : log ++ [] ≡ log = append-nil log in
    let stands : IsAllowed published (log ++ []) = subst (IsAllowed published) (sym all) stood in
    let n : either (length log == old) (old + 1) (length log) ≡ length (log ++ []) = rw is (ap length (sym all)) in (
      keeps,
      [],
      Some (length log, length (log ++ [])),
      tt,
      record { words = ap (λ (k : ℕ). (k, true) ∷ (0, true) ∷ []) n; legal = stands.0; backed = stands.1 },
      inr ((length log, length (log ++ [])), refl, refl, refl),
      (refl, stands, λ (found : length log ≡ old). absurd (grind (arith, nat_tests))),
    )

-- Whatever the history is, the exchange runs its offer; and where it finds as many changes as it expects, it adds the
-- change to all that was seen.
pub adds_moves : (published : List Update → Type 0) (v : List Change) (e : Change) (old : ℕ) → length v ≡ old → IsAllowed published (v ++ e ∷ [])
    → Moves (IsKept published) (λ xs. xs) IsMove 0 (v, (no_nib, None)) (λ n. either (n == old) (old + 1) n) (Adds published (step 0 old (old + 1) e) (v, (no_nib, None)))
adds_moves published v e old len may cs log kept pre away =
    let P : List Cell → Type 0 = λ c. (0 < length c) × ((cell c 0).1 ≡ true) × Goes (IsKept published) (λ xs. xs) IsMove 0 (v, (no_nib, None)) (λ n. either (n == old) (old + 1) n) (Adds published (step 0 old (old + 1) e) (v, (no_nib, None))) c log in
    subst P (sym kept.words) (omega arith, refl, adds_goes published log v e old len may (kept.legal, kept.backed) pre (length log == old) refl)
