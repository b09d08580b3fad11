-- What is said to a newcomer goes on, and what is heard from it.
use Rattle.std.proofs.Common.{◌≡◌, ℕ, List, [], ◌∷◌, ◌++◌, ◌+◌, ◌-◌, ◌≤◌, length, take, drop, sym, ap, ◌∙◌, arith, append_assoc, append-nil}
use Rattle.std.proofs.Math.Seq.{take-add}
use Rattle.std.proofs.lemmas.List.{take-take}

-- The version goes on, and nothing of the question was said.
pub said_more : (version question before left after : List ℕ) (n k asked : ℕ) → asked ≡ 0 → before ≡ take n version ++ take asked question → left ≡ drop n version
    → after ≡ before ++ take k left → after ≡ take (n + k) version ++ take asked question
said_more version question before left after n k asked none b l a =
    let empty : take asked question ≡ [] = ap (λ i. take i question) none in
    a ∙ ap (λ x. x ++ take k left) (b ∙ ap (λ x. take n version ++ x) empty ∙ append-nil (take n version)) ∙ ap (λ x. take n version ++ take k x) l
    ∙ sym (take-add n k version) ∙ sym (append-nil (take (n + k) version)) ∙ ap (λ x. take (n + k) version ++ x) (sym empty)

-- The question goes on, of which the first bytes are due.
pub asked_more : (version question before left after : List ℕ) (n asked due k : ℕ) → k ≤ due → before ≡ take n version ++ take asked question → left ≡ take due (drop asked question)
    → after ≡ before ++ take k left → after ≡ take n version ++ take (asked + k) question
asked_more version question before left after n asked due k within b l a =
    a ∙ ap (λ x. x ++ take k left) b ∙ append_assoc (take n version) (take asked question) (take k left)
    ∙ ap (λ x. take n version ++ (take asked question ++ x)) (ap (take k) l ∙ take-take k due (drop asked question) within)
    ∙ ap (λ x. take n version ++ x) (sym (take-add asked k question))

-- Bytes behind the newcomer's version, behind those that came.
pub heard : (front own answered received next : List ℕ) → received ≡ front ++ (own ++ answered) → received ++ next ≡ front ++ (own ++ (answered ++ next))
heard front own answered received next r =
    ap (λ l. l ++ next) r ∙ append_assoc front (own ++ answered) next ∙ ap (λ l. front ++ l) (append_assoc own answered next)

-- The first byte stays.
pub same_choice : (answered next : List ℕ) → take 1 answered ≡ 2 ∷ [] → take 1 (answered ++ next) ≡ 2 ∷ []
same_choice [] next e = cc
same_choice (x ∷ xs) next e = e
