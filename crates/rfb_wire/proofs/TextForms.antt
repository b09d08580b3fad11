-- How a text goes on, kept or read past, in a message of either direction. A reader of either side takes a text by the
-- same parts.
use Rattle.std.proofs.Common.{◌≡◌, ℕ, zero, suc, ◌-◌, ◌≤◌, List, [], ◌∷◌, ◌++◌, length, refl, sym, ap, ◌∙◌, append_assoc, arith}
use mathlib.Core.Path.{fun_ext}
use Rattle.std.proofs.lemmas.List.{append-nil}
use Rattle.byte_reading.specs.Reading.{Reading, Done, ◌>>=◌, step, after, taken, bytes}
use Rattle.byte_reading.proofs.ReadingLaws.{bind_assoc}
use Rattle.rfb_wire.specs.HeldText.{kept_text}

less_none : (n : ℕ) → n - 0 ≡ n
less_none n = omega arith

-- One byte of it.
pub text_step : {A : Type 0} (make : List ℕ → A) (kept : List ℕ) (left b : ℕ) → step (kept_text make kept (suc left)) b ≡ kept_text make (kept ++ b ∷ []) left
text_step {A = A} make kept left b =
    bind_assoc (bytes left) (λ others. Done (b ∷ others)) (λ others. Done (make (kept ++ others)))
    ∙ ap (λ (f : List ℕ → Reading A). bytes left >>= f) (fun_ext (λ others. ap (λ t. Done (make t)) (sym (append_assoc kept (b ∷ []) others))))

-- Several.
pub text_after : {A : Type 0} (make : List ℕ → A) (kept xs : List ℕ) (left : ℕ) → length xs ≤ left → after (kept_text make kept left) xs ≡ kept_text make (kept ++ xs) (left - length xs)
text_after make kept [] left le = ap (λ t. kept_text make t left) (sym (append-nil kept)) ∙ ap (λ n. kept_text make (kept ++ []) n) (sym (less_none left))
text_after make kept (b ∷ xs) zero le = absurd (omega arith)
text_after make kept (b ∷ xs) (suc left) le =
    let e : suc left - length (b ∷ xs) ≡ left - length xs = omega arith in
    ap (λ r. after r xs) (text_step make kept left b) ∙ (text_after make (kept ++ b ∷ []) xs left (omega arith) ∙ rw (e, append_assoc kept (b ∷ []) xs) refl)

pub text_taken : {A : Type 0} (make : List ℕ → A) (kept xs : List ℕ) (left : ℕ) → length xs ≤ left → taken (kept_text make kept left) xs ≡ length xs
text_taken make kept [] zero le = refl
text_taken make kept [] (suc left) le = refl
text_taken make kept (b ∷ xs) zero le = absurd (omega arith)
text_taken make kept (b ∷ xs) (suc left) le = ap suc (ap (λ r. taken r xs) (text_step make kept left b) ∙ text_taken make (kept ++ b ∷ []) xs left (omega arith))
