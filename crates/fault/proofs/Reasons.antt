-- A reason and the zeros after it. A `Reason` keeps its bytes in an array of fixed length.
use Rattle.std.proofs.Common.{◌≡◌, ◌∙◌, ℕ, ◌-◌, List, ◌++◌, length, take, drop, ap, sym, subst}
use Rattle.std.specs.Prelude.{replicate}
use Rattle.std.proofs.lemmas.List.{drop-replicate}
use Rattle.std.proofs.Math.Seq.{take-append_seam}

-- An array of which the first n are the reason, and all others zero.
abbrev pub IsPadded : (m n : ℕ) → List ℕ → Type 0
IsPadded m n array = (n ≡ length (take n array)) × (array ≡ take n array ++ replicate (m - n) 0)

-- The front of an array was overwritten by a reason, and zeros stand after.
padded : (m : ℕ) (xs rest : List ℕ) → rest ≡ replicate (m - length xs) 0 → IsPadded m (length xs) (xs ++ rest)
padded m xs rest e = (ap length (sym (take-append_seam xs rest)), ap (λ zs. xs ++ zs) e ∙ ap (λ ys. ys ++ replicate (m - length xs) 0) (sym (take-append_seam xs rest)))

pub stands_before_zeros : (m : ℕ) (xs ys : List ℕ) → ys ≡ xs → IsPadded m (length xs) (ys ++ drop (length xs) (replicate {A = ℕ} m 0))
stands_before_zeros m xs ys e =
    let zero : ℕ = 0
    in subst (λ front. IsPadded m (length xs) (front ++ drop (length xs) (replicate m zero))) (sym e) (padded m xs (drop (length xs) (replicate m zero)) (drop-replicate (length xs) m zero))
