-- Values counted by their buckets. `count_buckets` goes through them once.
use Rattle.std.proofs.Common.{◌≡◌, ℕ, zero, suc, refl, List, [], ◌∷◌, length, take, get_or, sym, ap, ◌∙◌, ◌+◌, ◌<◌, ◌≤◌, arith, inl, inr, length-append}
use Rattle.std.specs.Prelude.{filter, ◌==◌, slice_set, replicate}
use Rattle.std.proofs.lemmas.Bool.{cases_eq, eq-eqb, ne_eqb}
use Rattle.std.proofs.lemmas.List.{take_more, get_or-set_same, get_or-set_other}
use Rattle.std.proofs.lemmas.List.Elements.{filter-append}
use Rattle.joined_runs.specs.Joined.{count_of}
use Rattle.hextile_codec.specs.Buckets.{bucket_of}

pub none_counted : (n b : ℕ) → get_or {A = ℕ} (replicate n 0) b 0 ≡ 0
none_counted zero b = refl
none_counted (suc n) zero = refl
none_counted (suc n) (suc b) = none_counted n b

-- One bucket has one more.
pub one_more : (counts : List ℕ) (k i : ℕ) → k < length counts → ((b : ℕ) → get_or counts b 0 ≤ i) → (b : ℕ) → get_or (slice_set counts k (get_or counts k 0 + 1)) b 0 ≤ i + 1
one_more counts k i lt few b = elim (cases_eq b k) [
  | inl e ↦ rw e (let same = get_or-set_same counts k (get_or counts k 0 + 1) 0 lt in let le = few k in omega (arith, same, le))
  | inr ne ↦ let other = get_or-set_other counts k b (get_or counts k 0 + 1) 0 ne in let le = few b in omega (arith, other, le)
]

-- It is that of the next value.
pub one_counted : (values counts : List ℕ) (i : ℕ) → i < length values → bucket_of (get_or values i 0) < length counts → ((v : ℕ) → count_of (take i values) v ≤ get_or counts (bucket_of v) 0)
    → (v : ℕ) → count_of (take (i + 1) values) v ≤ get_or (slice_set counts (bucket_of (get_or values i 0)) (get_or counts (bucket_of (get_or values i 0)) 0 + 1)) (bucket_of v) 0
one_counted values counts i li lk so v =
    let u : ℕ = get_or values i 0 in
    let k : ℕ = bucket_of u in
    let new : List ℕ = slice_set counts k (get_or counts k 0 + 1) in
    let more : count_of (take (i + 1) values) v ≡ count_of (take i values) v + count_of (u ∷ []) v =
    ap (λ xs. count_of xs v) (take_more values i 0 li) ∙ (ap length (filter-append (λ x. x == v) (take i values) (u ∷ [])) ∙ length-append (filter (λ x. x == v) (take i values)) (filter (λ x. x == v) (u ∷ []))) in
    let before = so v in
    let same : get_or new k 0 ≡ get_or counts k 0 + 1 = get_or-set_same counts k (get_or counts k 0 + 1) 0 lk in
    elim (cases_eq u v) [
      | inl e ↦
          let one : count_of (u ∷ []) v ≤ 1 = rw (eq-eqb u v e) (omega arith) in
          let place : bucket_of v ≡ k = ap bucket_of (sym e) in
          let here : get_or new (bucket_of v) 0 ≡ get_or new k 0 = ap (λ b. get_or new b 0) place in
          let old : get_or counts (bucket_of v) 0 ≡ get_or counts k 0 = ap (λ b. get_or counts b 0) place in
          omega (arith, more, one, here, old, same, before)
      | inr ne ↦
          let none : count_of (u ∷ []) v ≡ 0 = rw (ne_eqb u v ne) (omega arith) in
          elim (cases_eq (bucket_of v) k) [
            | inl place ↦
                let here : get_or new (bucket_of v) 0 ≡ get_or new k 0 = ap (λ b. get_or new b 0) place in
                let old : get_or counts (bucket_of v) 0 ≡ get_or counts k 0 = ap (λ b. get_or counts b 0) place in
                omega (arith, more, none, here, old, same, before)
            | inr apart ↦ let other = get_or-set_other counts k (bucket_of v) (get_or counts k 0 + 1) 0 apart in omega (arith, more, none, other, before)
          ]
    ]
