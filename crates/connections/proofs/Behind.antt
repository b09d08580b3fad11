-- What is sent of two lists, one behind the other.
use Rattle.std.proofs.Common.{◌≡◌, ℕ, zero, suc, List, [], ◌∷◌, ◌++◌, ◌-◌, length, take, drop, sym, ap, ◌∙◌, arith, append_assoc, append-nil}
use Rattle.std.specs.Prelude.{min}
use Rattle.std.proofs.lemmas.List.{drop_min, take_min}

take_behind : {A : Type 0} (n : ℕ) (a b : List A) → take n (a ++ b) ≡ take n a ++ take (n - length a) b
take_behind zero a b =
    let none : 0 ≡ 0 - length a = omega arith in
    ap (λ k. take k b) none
take_behind (suc n) [] b =
    let all : suc n ≡ suc n - 0 = omega arith in
    ap (λ k. take k b) all
take_behind (suc n) (x ∷ a) b =
    let same : n - length a ≡ suc n - suc (length a) = omega arith in
    ap (λ l. x ∷ l) (take_behind n a b ∙ ap (λ k. take n a ++ take k b) same)

rest_behind : {A : Type 0} (n : ℕ) (a b : List A) → take n (a ++ b) ++ drop n a ≡ a ++ take (n - length a) b
rest_behind zero a b =
    let none : 0 ≡ 0 - length a = omega arith in
    sym (append-nil a) ∙ ap (λ k. a ++ take k b) none
rest_behind (suc n) [] b =
    let all : suc n ≡ suc n - 0 = omega arith in
    append-nil (take (suc n) b) ∙ ap (λ k. take k b) all
rest_behind (suc n) (x ∷ a) b =
    let same : n - length a ≡ suc n - suc (length a) = omega arith in
    ap (λ l. x ∷ l) (rest_behind n a b ∙ ap (λ k. a ++ take k b) same)

-- What is sent and what of the first list is left is the first list and what of the second is sent.
pub sent_behind : {A : Type 0} (n : ℕ) (was a b sent kept : List A) → sent ≡ was ++ take n (a ++ b) → kept ≡ drop (min n (length a)) a → sent ++ kept ≡ (was ++ a) ++ take (n - length a) b
sent_behind n was a b sent kept s k =
    ap (λ l. l ++ kept) s ∙ (append_assoc was (take n (a ++ b)) kept ∙ ap (λ l. was ++ l) (ap (λ l. take n (a ++ b) ++ l) (k ∙ drop_min n a) ∙ rest_behind n a b) ∙ sym (append_assoc was a (take (n - length a) b)))

-- The first of both are noted in two parts.
pub noted_behind : {A : Type 0} (n : ℕ) (was a b one two : List A) → one ≡ was ++ take (min n (length a)) a → two ≡ one ++ take (n - length a) b → two ≡ was ++ take n (a ++ b)
noted_behind n was a b one two e f =
    f ∙ (ap (λ l. l ++ take (n - length a) b) e ∙ (append_assoc was (take (min n (length a)) a) (take (n - length a) b) ∙ ap (λ l. was ++ l) (ap (λ l. l ++ take (n - length a) b) (take_min n a) ∙ sym (take_behind n a b))))
