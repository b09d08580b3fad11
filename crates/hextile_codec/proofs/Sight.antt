-- How far a position of a word sees over bits that are set. `reaching` doubles that four times.
use Rattle.std.proofs.Common.{◌≡◌, ℕ, zero, suc, min, max, sym, ap, ◌∙◌, ◌+◌, ◌<◌, ◌≤◌, inl, inr, arith}
use Rattle.std.specs.Int.{bit_at}
use Rattle.std.proofs.lemmas.Bool.{cases_lt}
use Rattle.std.proofs.lemmas.Nat.Bits.{bit_at-lt}
use Rattle.hextile_codec.specs.Reach.{clear_from, reach_from}

min_parts : (a b c d : ℕ) → min (min (min a b) c) d ≡ min a (min (min b c) d)
min_parts a b c d = omega arith

max_parts : (a b c : ℕ) → max (max a b) c ≡ max a (max b c)
max_parts a b c = omega arith

min_of_max : (a b c : ℕ) → min a (max b c) ≡ max (min a b) (min a c)
min_of_max a b c = omega arith

module _ (clean ends : ℕ) where
  clear_few : (n p : ℕ) → clear_from clean n p ≤ 1
  clear_few zero p = omega arith
  clear_few (suc n) p = let rest = clear_few n p in omega (arith, rest)

  reach_few : (n p : ℕ) → reach_from clean ends n p ≤ 1
  reach_few zero p = omega arith
  reach_few (suc n) p = let rest = reach_few n p in let one = bit_at-lt ends (p + n) in omega (arith, rest, one)

  -- What is seen of two parts.
  pub clear_split : (n m p : ℕ) → clear_from clean (n + m) p ≡ min (clear_from clean n p) (clear_from clean m (p + n))
  clear_split n zero p = let same : n + zero ≡ n = omega arith in let few = clear_few n p in ap (λ k. clear_from clean k p) same ∙ omega (arith, few)
  clear_split n (suc m) p =
      let count : n + suc m ≡ suc (n + m) = omega arith in
      let place : p + (n + m) ≡ p + n + m = omega arith in
      let rest = clear_split n m p in
      let bit = ap (bit_at clean) place in
      ap (λ k. clear_from clean k p) count ∙ omega (arith, rest, bit)

  pub reach_split : (n m p : ℕ) → reach_from clean ends (n + m) p ≡ max (reach_from clean ends n p) (min (clear_from clean n p) (reach_from clean ends m (p + n)))
  reach_split n zero p = let same : n + zero ≡ n = omega arith in ap (λ k. reach_from clean ends k p) same ∙ omega arith
  reach_split n (suc m) p =
      let count : n + suc m ≡ suc (n + m) = omega arith in
      let place : p + (n + m) ≡ p + n + m = omega arith in
      let a : ℕ = reach_from clean ends n p in
      let b : ℕ = clear_from clean n p in
      let r : ℕ = reach_from clean ends m (p + n) in
      let s : ℕ = min (clear_from clean (suc m) (p + n)) (bit_at ends (p + n + m)) in
      let last : min (clear_from clean (suc (n + m)) p) (bit_at ends (p + (n + m))) ≡ min b s =
      ap (λ k. min (min k (bit_at clean (p + (n + m)))) (bit_at ends (p + (n + m)))) (clear_split n m p)
      ∙ (ap (λ k. min (min (min b (clear_from clean m (p + n))) (bit_at clean k)) (bit_at ends k)) place ∙ min_parts b (clear_from clean m (p + n)) (bit_at clean (p + n + m)) (bit_at ends (p + n + m))) in
      ap (λ k. reach_from clean ends k p) count
      ∙ (ap (λ k. max (reach_from clean ends (n + m) p) k) last ∙ (ap (λ k. max k (min b s)) (reach_split n m p) ∙ (max_parts a (min b r) (min b s) ∙ ap (max a) (sym (min_of_max b r s)))))

  clear_each : (n p : ℕ) → clear_from clean n p ≡ 1 → (i : ℕ) → i < n → bit_at clean (p + i) ≡ 1
  clear_each zero p e i lt = absurd (omega arith)
  clear_each (suc n) p e i lt =
      let few = clear_few n p in
      let bit = bit_at-lt clean (p + n) in
      elim (cases_lt i n) [
        | inl less ↦ clear_each n p (omega (arith, e, few, bit)) i less
        | inr ge ↦ let same : i ≡ n = omega (arith, lt, ge) in ap (λ k. bit_at clean (p + k)) same ∙ omega (arith, e, few, bit)
      ]

  each_clear : (n p : ℕ) → ((i : ℕ) → i < n → bit_at clean (p + i) ≡ 1) → clear_from clean n p ≡ 1
  each_clear zero p all = omega arith
  each_clear (suc n) p all = let rest = each_clear n p (λ i lt. all i (omega (arith, lt))) in let last = all n (omega arith) in omega (arith, rest, last)

  -- An end that is seen, over set bits.
  pub record IsSeen (n p : ℕ) : Type 0 where
    pub far : ℕ
    pub near : far < n
    pub end : bit_at ends (p + far) ≡ 1
    pub set : (i : ℕ) → i ≤ far → bit_at clean (p + i) ≡ 1

  pub seen : (n p : ℕ) → reach_from clean ends n p ≡ 1 → IsSeen n p
  seen zero p e = absurd (omega (arith, e))
  seen (suc n) p e =
      let few = reach_few n p in
      let clear = clear_few (suc n) p in
      let bit = bit_at-lt ends (p + n) in
      elim (cases_lt 0 (reach_from clean ends n p)) [
        | inl some ↦ let s = seen n p (omega (arith, some, few)) in record { far = s.far; near = let n = s.near in omega (arith, n); end = s.end; set = s.set }
        | inr none ↦
            let all : clear_from clean (suc n) p ≡ 1 = omega (arith, e, none, clear, bit) in
            record {
              far = n;
              near = omega arith;
              end = omega (arith, e, none, clear, bit);
              set = λ i le. clear_each (suc n) p all i (omega (arith, le));
            }
      ]

  pub is_seen : (n p far : ℕ) → far < n → bit_at ends (p + far) ≡ 1 → ((i : ℕ) → i ≤ far → bit_at clean (p + i) ≡ 1) → reach_from clean ends n p ≡ 1
  is_seen zero p far lt end set = absurd (omega (arith, lt))
  is_seen (suc n) p far lt end set =
      let few = reach_few n p in
      let clear = clear_few (suc n) p in
      let bit = bit_at-lt ends (p + n) in
      elim (cases_lt far n) [
        | inl less ↦ let rest = is_seen n p far less end set in omega (arith, rest, clear, bit)
        | inr ge ↦
            let same : far ≡ n = omega (arith, lt, ge) in
            let here : bit_at ends (p + n) ≡ 1 = ap (λ k. bit_at ends (p + k)) (sym same) ∙ end in
            let all : clear_from clean (suc n) p ≡ 1 = each_clear (suc n) p (λ i li. set i (omega (arith, li, ge))) in
            omega (arith, here, all, few)
      ]
