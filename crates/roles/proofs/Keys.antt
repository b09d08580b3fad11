-- Keys by rising number. `Held` and the definition keep them so, to find one at once.
use Rattle.std.proofs.Common.{◌≡◌, ℕ, zero, suc, ◌+◌, ◌<◌, ◌≤◌, Bool, true, false, cond, List, [], ◌∷◌, length, filter, nat_lt, get_or, refl, ap, sym, ◌∙◌, arith, inl, inr}
use Rattle.std.specs.Prelude.{◌==◌}
use Rattle.std.specs.List.{prefix_len, list_all, insert, remove}
use Rattle.std.proofs.lemmas.Bool.{and_parts, ltb-true, cases_lt}
use Rattle.std.proofs.lemmas.Bool.Decides.{nat_tests}
use Rattle.roles.specs.Allowed.{with_key, without_key, is_down}
use Rattle.roles.specs.Held.{is_rising}

lower : (x key : ℕ) → x < key → nat_lt x key ≡ true
lower x key lt = grind (arith, nat_tests)

not_lower : (x key : ℕ) → key ≤ x → nat_lt x key ≡ false
not_lower x key le = grind (arith, nat_tests)

other : (x key : ℕ) → x < key → (x == key) ≡ false
other x key lt = grind (arith, nat_tests)

other_above : (x key : ℕ) → key < x → (x == key) ≡ false
other_above x key lt = grind (arith, nat_tests)

-- where a number stands to another
data Order (x key : ℕ) : Type 0 where
  Below : x < key → Order x key
  Same : x ≡ key → Order x key
  Above : key < x → Order x key

order : (x key : ℕ) → Order x key
order x key =
    elim (cases_lt x key) [
      | inl lt ↦ Below lt
      | inr le ↦ elim (cases_lt key x) [ inl lt ↦ Above lt | inr ge ↦ Same (omega arith) ]
    ]

-- this many keys from the front are lower, and the next one, if there is one, isn't
pub reaches : (keys : List ℕ) (key n : ℕ) → n ≤ length keys → ((k : ℕ) → k < n → get_or keys k 0 < key) → (n < length keys → key ≤ get_or keys n 0) → n ≡ prefix_len (λ k. nat_lt k key) keys
reaches [] key n le below next = omega (arith, le)
reaches (x ∷ xs) key zero le below next = rw (not_lower x key (next (omega arith))) refl
reaches (x ∷ xs) key (suc n) le below next =
    rw (lower x key (below 0 (omega arith)))
    (omega (arith, reaches xs key n (omega arith) (λ k lt. below (suc k) (omega arith)) (λ lt. next (omega arith))))

-- all of them are above a number
abbrev AllAbove : ℕ → List ℕ → Type 0
AllAbove x keys = list_all (λ y. nat_lt x y) keys ≡ true

above_lower : (x y : ℕ) (keys : List ℕ) → x < y → AllAbove y keys → AllAbove x keys
above_lower x y [] lt all = refl
above_lower x y (k ∷ ks) lt all =
    let parts = and_parts (nat_lt y k) (list_all (λ z. nat_lt y z) ks) all in
    rw (lower x k (omega (arith, ltb-true y k parts.0))) (above_lower x y ks lt parts.1)

above_with : (x key : ℕ) (keys : List ℕ) → x < key → AllAbove x keys → AllAbove x (with_key key keys)
above_with x key [] lt all = rw (lower x key lt) refl
above_with x key (k ∷ ks) lt all =
    let parts = and_parts (nat_lt x k) (list_all (λ z. nat_lt x z) ks) all in
    elim (order k key) [
      | Below kl ↦ rw (not_lower key k (omega arith), other k key kl, parts.0) (above_with x key ks lt parts.1)
      | Same e ↦ rw (not_lower key k (omega arith), (let same : (k == key) ≡ true = grind (arith, nat_tests) in same)) all
      | Above kl ↦ rw (lower key k kl, lower x key lt) all
    ]

above_filter : (x : ℕ) (p : ℕ → Bool) (keys : List ℕ) → AllAbove x keys → AllAbove x (filter p keys)
above_filter x p [] all = refl
above_filter x p (k ∷ ks) all =
    let parts = and_parts (nat_lt x k) (list_all (λ z. nat_lt x z) ks) all in
    above_filter_one x p k ks (p k) parts.0 (above_filter x p ks parts.1)
  where
    above_filter_one : (x : ℕ) (p : ℕ → Bool) (k : ℕ) (ks : List ℕ) (b : Bool) → nat_lt x k ≡ true → AllAbove x (filter p ks) → AllAbove x (cond b (k ∷ filter p ks) (filter p ks))
    above_filter_one x p k ks true e all = rw e all
    above_filter_one x p k ks false e all = all

pub rising_with : (key : ℕ) (keys : List ℕ) → is_rising keys ≡ true → is_rising (with_key key keys) ≡ true
rising_with key [] r = refl
rising_with key (k ∷ ks) r =
    let parts = and_parts (list_all (λ z. nat_lt k z) ks) (is_rising ks) r in
    elim (order k key) [
      | Below kl ↦ rw (not_lower key k (omega arith), other k key kl, above_with k key ks kl parts.0) (rising_with key ks parts.1)
      | Same e ↦ rw (not_lower key k (omega arith), (let same : (k == key) ≡ true = grind (arith, nat_tests) in same)) r
      | Above kl ↦ rw (lower key k kl, lower key k kl, above_lower key k ks kl parts.0) r
    ]

pub rising_filter : (p : ℕ → Bool) (keys : List ℕ) → is_rising keys ≡ true → is_rising (filter p keys) ≡ true
rising_filter p [] r = refl
rising_filter p (k ∷ ks) r =
    let parts = and_parts (list_all (λ z. nat_lt k z) ks) (is_rising ks) r in
    rising_filter_one p k ks (p k) (above_filter k p ks parts.0) (rising_filter p ks parts.1)
  where
    rising_filter_one : (p : ℕ → Bool) (k : ℕ) (ks : List ℕ) (b : Bool) → AllAbove k (filter p ks) → is_rising (filter p ks) ≡ true → is_rising (cond b (k ∷ filter p ks) (filter p ks)) ≡ true
    rising_filter_one p k ks true all r = rw all r
    rising_filter_one p k ks false all r = r

pub rising_rest : (k : ℕ) (ks : List ℕ) → is_rising (k ∷ ks) ≡ true → is_rising ks ≡ true
rising_rest k ks r = (and_parts (list_all (λ z. nat_lt k z) ks) (is_rising ks) r).1

-- a key that isn't above a number isn't among those above it
absent : (x key : ℕ) (keys : List ℕ) → key ≤ x → AllAbove x keys → is_down key keys ≡ false
absent x key [] le all = refl
absent x key (k ∷ ks) le all =
    let parts = and_parts (nat_lt x k) (list_all (λ z. nat_lt x z) ks) all in
    let kl : x < k = ltb-true x k parts.0 in
    rw (other_above k key (omega arith)) (absent x key ks le parts.1)

-- a key that is among them stays where it is
pub with_same : (key : ℕ) (keys : List ℕ) → is_rising keys ≡ true → is_down key keys ≡ true → with_key key keys ≡ keys
with_same key [] r down = absurd cc
with_same key (k ∷ ks) r down =
    let parts = and_parts (list_all (λ z. nat_lt k z) ks) (is_rising ks) r in
    elim (order k key) [
      | Below kl ↦ rw (not_lower key k (omega arith), other k key kl)
          (ap (λ (zs : List ℕ). k ∷ zs) (with_same key ks parts.1 (let e : is_down key (k ∷ ks) ≡ is_down key ks = rw (other k key kl) refl in sym e ∙ down)))
      | Same e ↦ rw (not_lower key k (omega arith), (let same : (k == key) ≡ true = grind (arith, nat_tests) in same)) refl
      | Above kl ↦ let e : is_down key (k ∷ ks) ≡ false = rw (other_above k key kl) (absent k key ks (omega arith) parts.0) in let no : true ≡ false = sym down ∙ e in absurd cc
    ]

insert_more : (k : ℕ) (ks : List ℕ) (n key : ℕ) → insert (k ∷ ks) (1 + n) key ≡ k ∷ insert ks n key
insert_more k ks n key = let e : 1 + n ≡ suc n = omega arith in rw e refl

remove_more : (k : ℕ) (ks : List ℕ) (n : ℕ) → remove (k ∷ ks) (1 + n) ≡ k ∷ remove ks n
remove_more k ks n = let e : 1 + n ≡ suc n = omega arith in rw e refl

-- a further one stands before the first that isn't lower
pub with_new : (key : ℕ) (keys : List ℕ) → is_down key keys ≡ false → with_key key keys ≡ insert keys (prefix_len (λ k. nat_lt k key) keys) key
with_new key [] down = refl
with_new key (k ∷ ks) down =
    elim (order k key) [
      | Below kl ↦ rw (not_lower key k (omega arith), other k key kl, lower k key kl, insert_more k ks (prefix_len (λ j. nat_lt j key) ks) key)
          (ap (λ (zs : List ℕ). k ∷ zs) (with_new key ks (let e : is_down key (k ∷ ks) ≡ is_down key ks = rw (other k key kl) refl in sym e ∙ down)))
      | Same e ↦ let yes : is_down key (k ∷ ks) ≡ true = rw (let same : (k == key) ≡ true = grind (arith, nat_tests) in same) refl in let no : true ≡ false = sym yes ∙ down in absurd cc
      | Above kl ↦ rw (lower key k kl, not_lower k key (omega arith)) refl
    ]

-- all above a number: taking that number out changes nothing
without_absent : (x key : ℕ) (keys : List ℕ) → key ≤ x → AllAbove x keys → without_key key keys ≡ keys
without_absent x key [] le all = refl
without_absent x key (k ∷ ks) le all =
    let parts = and_parts (nat_lt x k) (list_all (λ z. nat_lt x z) ks) all in
    let kl : x < k = ltb-true x k parts.0 in
    rw (other_above k key (omega arith)) (ap (λ (zs : List ℕ). k ∷ zs) (without_absent x key ks le parts.1))

-- a key that is among them is taken out where it stands
pub without_same : (key : ℕ) (keys : List ℕ) → is_rising keys ≡ true → is_down key keys ≡ true → without_key key keys ≡ remove keys (prefix_len (λ k. nat_lt k key) keys)
without_same key [] r down = absurd cc
without_same key (k ∷ ks) r down =
    let parts = and_parts (list_all (λ z. nat_lt k z) ks) (is_rising ks) r in
    elim (order k key) [
      | Below kl ↦ rw (other k key kl, lower k key kl, remove_more k ks (prefix_len (λ j. nat_lt j key) ks))
          (ap (λ (zs : List ℕ). k ∷ zs) (without_same key ks parts.1 (let e : is_down key (k ∷ ks) ≡ is_down key ks = rw (other k key kl) refl in sym e ∙ down)))
      | Same e ↦ rw (not_lower k key (omega arith), (let same : (k == key) ≡ true = grind (arith, nat_tests) in same)) (without_absent k key ks (omega arith) parts.0)
      | Above kl ↦ let e : is_down key (k ∷ ks) ≡ false = rw (other_above k key kl) (absent k key ks (omega arith) parts.0) in let no : true ≡ false = sym down ∙ e in absurd cc
    ]

-- the first of rising keys is not among the others
pub without_rest : (k : ℕ) (ks : List ℕ) → is_rising (k ∷ ks) ≡ true → without_key k ks ≡ ks
without_rest k ks r = without_absent k k ks (omega arith) (and_parts (list_all (λ z. nat_lt k z) ks) (is_rising ks) r).0

-- and there is such a place
pub place_within : (key : ℕ) (keys : List ℕ) → is_down key keys ≡ true → prefix_len (λ k. nat_lt k key) keys < length keys
place_within key [] down = absurd cc
place_within key (k ∷ ks) down =
    elim (order k key) [
      | Below kl ↦ rw (lower k key kl) (omega (arith, place_within key ks (let e : is_down key (k ∷ ks) ≡ is_down key ks = rw (other k key kl) refl in sym e ∙ down)))
      | Same e ↦ rw (not_lower k key (omega arith)) (omega arith)
      | Above kl ↦ rw (not_lower k key (omega arith)) (omega arith)
    ]
