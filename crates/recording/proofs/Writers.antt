-- Writing one thing after another, as the writer of a block does.
use Rattle.std.proofs.Common.{◌≡◌, ℕ, zero, suc, ◌+◌, ◌<◌, arith, [], ◌∷◌, replicate, List, ◌++◌, length, take, drop, refl, sym, ap, subst, ◌∙◌, append_assoc, length-append, drop-drop}
use Rattle.std.proofs.lemmas.List.{take_at, drop_at}
use Rattle.recording.specs.Waiting.{Writes}

writes_behind : (a b old back : List ℕ) (k : ℕ) → Writes b (drop (length a) old) back k → Writes (a ++ b) old (a ++ back) (length a + k)
writes_behind a b old back k h =
    record {
      written = ap (λ t. a ++ t) h.written ∙ (sym (append_assoc a b (drop (length b) (drop (length a) old))) ∙ ap (λ t. (a ++ b) ++ t) (drop-drop (length b) (length a) old ∙ ap (λ n. drop n old) (sym (length-append a b))));
      count_is = ap (λ n. length a + n) h.count_is ∙ sym (length-append a b);
    }

-- The one at the front, and the other behind it.
pub writes_two : (a b old mid front back new : List ℕ) (m n : ℕ) → Writes a old mid m → front ≡ take m mid → back ≡ drop m mid → Writes b back new n → Writes (a ++ b) old (front ++ new) (m + n)
writes_two a b old mid front back new m n h f k g =
    let front_is : front ≡ a = f ∙ (ap (λ (i : ℕ). take i mid) h.count_is ∙ (ap (take (length a)) h.written ∙ take_at a (drop (length a) old) (length a) refl)) in
    let back_is : back ≡ drop (length a) old = k ∙ (ap (λ (i : ℕ). drop i mid) h.count_is ∙ (ap (drop (length a)) h.written ∙ drop_at a (drop (length a) old) (length a) refl)) in
    let behind : Writes b (drop (length a) old) new n = subst (λ (xs : List ℕ). Writes b xs new n) back_is g in
    let all : Writes (a ++ b) old (a ++ new) (length a + n) = writes_behind a b old new n behind in
    subst (λ (xs : List ℕ). Writes (a ++ b) old (xs ++ new) (m + n)) (sym front_is) (subst (λ (i : ℕ). Writes (a ++ b) old (a ++ new) (i + n)) (sym h.count_is) all)

-- Up to three zeros of four.
pub zeros : (p : ℕ) → p < 4 → take {A = ℕ} p (0 ∷ 0 ∷ 0 ∷ 0 ∷ []) ≡ replicate p 0
zeros zero lt = refl
zeros (suc zero) lt = refl
zeros (suc (suc zero)) lt = refl
zeros (suc (suc (suc zero))) lt = refl
zeros (suc (suc (suc (suc p)))) lt = absurd (omega arith)
