-- The most frequent of some values, found by counting those that may be. `most_frequent` goes through them once.
use Rattle.std.proofs.Common.{◌≡◌, ℕ, zero, suc, Bool, true, false, cond, List, [], ◌∷◌, length, take, drop, get_or, refl, sym, ap, ◌∙◌, ◌+◌, ◌-◌, ◌<◌, ◌≤◌, arith, inl, inr, length-append}
use Rattle.std.specs.Prelude.{filter, ◌⊎◌, ◌==◌, nat_le}
use Rattle.std.proofs.lemmas.Bool.{cases_lt, cases_eq, eq-eqb, ne_eqb, le-leb, lt-leb}
use Rattle.std.proofs.lemmas.List.{length-take, length-drop, get_or-take, take-append-drop}
use Rattle.std.proofs.lemmas.List.Elements.{filter-append}
use Rattle.std.proofs.lemmas.List.Folds.{list_all_at}
use Rattle.joined_runs.specs.Joined.{count_of, is_most_frequent, most_frequent}
use Rattle.raster.proofs.Runs.{filter_few}
use Rattle.joined_runs.proofs.MostFrequent.{all_from}
use Rattle.raster.proofs.Spellings.{Each}

-- ---- counts

pub count_few : (xs : List ℕ) (u : ℕ) → count_of xs u ≤ length xs
count_few xs u = filter_few (λ v. v == u) xs

pub count_split : (xs : List ℕ) (n u : ℕ) → count_of xs u ≡ count_of (take n xs) u + count_of (drop n xs) u
count_split xs n u =
    ap (λ ys. count_of ys u) (sym (take-append-drop n xs))
    ∙ (ap length (filter-append (λ v. v == u) (take n xs) (drop n xs)) ∙ length-append (filter (λ v. v == u) (take n xs)) (filter (λ v. v == u) (drop n xs)))

count_next : (x : ℕ) (xs : List ℕ) (u : ℕ) → (x ≡ u → ⊥) → count_of (x ∷ xs) u ≡ count_of xs u
count_next x xs u ne = ap (λ b. length (cond b (x ∷ filter (λ v. v == u) xs) (filter (λ v. v == u) xs))) (ne_eqb x u ne)

count_here : (x : ℕ) (xs : List ℕ) (u : ℕ) → x ≡ u → count_of (x ∷ xs) u ≡ suc (count_of xs u)
count_here x xs u e = ap (λ b. length (cond b (x ∷ filter (λ v. v == u) xs) (filter (λ v. v == u) xs))) (eq-eqb x u e)

record StandsIn (xs : List ℕ) (u : ℕ) : Type 0 where
  k : ℕ
  inside : k < length xs
  is : get_or xs k 0 ≡ u

occurs : (xs : List ℕ) (u : ℕ) → (count_of xs u ≡ 0) ⊎ StandsIn xs u
occurs [] u = inl refl
occurs (x ∷ xs) u =
    elim (cases_eq x u) [
      | inl e ↦ inr (record { k = 0; inside = omega arith; is = e })
      | inr ne ↦ elim (occurs xs u) [
        | inl none ↦ inl (count_next x xs u ne ∙ none)
        | inr s ↦ inr (record { k = suc s.k; inside = omega (arith, s.inside); is = s.is })
      ]
    ]

-- Two values are no more than all.
two_few : (xs : List ℕ) (u v : ℕ) → (u ≡ v → ⊥) → count_of xs u + count_of xs v ≤ length xs
two_few [] u v ne = omega arith
two_few (x ∷ xs) u v ne =
    let rest : count_of xs u + count_of xs v ≤ length xs = two_few xs u v ne in
    elim (cases_eq x u) [
      | inl e ↦ omega (arith, rest, count_here x xs u e, count_next x xs v (λ f. ne (sym e ∙ f)))
      | inr d ↦ elim (cases_eq x v) [
        | inl e ↦ omega (arith, rest, count_next x xs u d, count_here x xs v e)
        | inr f ↦ omega (arith, rest, count_next x xs u d, count_next x xs v f)
      ]
    ]

-- ---- the best of those that came before a place

pub record IsBest (values : List ℕ) (at best most : ℕ) : Type 0 where
  pub first : ℕ
  pub below : first < at
  pub upto : at ≤ length values
  pub is : get_or values first 0 ≡ best
  pub count : most ≡ count_of values best
  pub before : (k : ℕ) → k < first → count_of values (get_or values k 0) < most
  pub so_far : (k : ℕ) → k < at → count_of values (get_or values k 0) ≤ most

pub one_is_best : (values : List ℕ) → 0 < length values → IsBest values 1 (get_or values 0 0) (count_of values (get_or values 0 0))
one_is_best values lt =
    record {
      first = 0;
      below = omega arith;
      upto = omega arith;
      is = refl;
      count = refl;
      before = λ k lk. absurd (omega arith);
      so_far = λ k lk. let e : k ≡ 0 = omega arith in rw e (omega arith);
    }

-- Of a value that came before it is known how frequent it is at most.
seen : (values : List ℕ) (at best most u : ℕ) → IsBest values at best most → (count_of values u ≤ most) ⊎ (count_of (take at values) u ≡ 0)
seen values at best most u b =
    elim (occurs (take at values) u) [
      | inl none ↦ inr none
      | inr s ↦
          let lt : s.k < at = omega (arith, s.inside, length-take at values) in
          let same : get_or values s.k 0 ≡ u = sym (get_or-take at values s.k 0 lt) ∙ s.is in
          inl (rw same at (b.so_far s.k lt))
    ]

-- The next value isn't better.
pub grown : (values : List ℕ) (at best most : ℕ) → IsBest values at best most → at < length values → count_of values (get_or values at 0) ≤ most → IsBest values (at + 1) best most
grown values at best most b lt le =
    record {
      first = b.first;
      below = omega (arith, b.below);
      upto = omega arith;
      is = b.is;
      count = b.count;
      before = b.before;
      so_far = λ k lk. elim (cases_lt k at) [
        | inl less ↦ b.so_far k less
        | inr ge ↦ let e : k ≡ at = omega arith in rw e le
      ];
    }

pub best_again : (values : List ℕ) (at best most : ℕ) → IsBest values at best most → at < length values → get_or values at 0 ≡ best → IsBest values (at + 1) best most
best_again values at best most b lt e = grown values at best most b lt (rw e (omega (arith, b.count)))

pub not_better : (values : List ℕ) (at best most count : ℕ) → IsBest values at best most → at < length values → count ≡ count_of (drop at values) (get_or values at 0) → count ≤ most → IsBest values (at + 1) best most
not_better values at best most count b lt is le =
    grown values at best most b lt
    (elim (seen values at best most (get_or values at 0) b) [
      | inl known ↦ known
      | inr fresh ↦ omega (arith, count_split values at (get_or values at 0), fresh, is)
    ])

pub better : (values : List ℕ) (at best most count : ℕ) → IsBest values at best most → at < length values → count ≡ count_of (drop at values) (get_or values at 0) → most < count → IsBest values (at + 1) (get_or values at 0) count
better values at best most count b lt is more =
    let u : ℕ = get_or values at 0 in
    let split = count_split values at u in
    let whole : count ≡ count_of values u = elim (seen values at best most u b) [
      | inl known ↦ absurd (omega (arith, split, is, known))
      | inr fresh ↦ omega (arith, split, fresh, is)
    ] in
    record {
      first = at;
      below = omega arith;
      upto = omega arith;
      is = refl;
      count = whole;
      before = λ k lk. let known = b.so_far k lk in omega (arith, known);
      so_far = λ k lk. elim (cases_lt k at) [
        | inl less ↦ let known = b.so_far k less in omega (arith, known)
        | inr ge ↦ let e : k ≡ at = omega arith in rw e (omega (arith, whole))
      ];
    }

-- ---- none is better

pub none_left : (values : List ℕ) (at best most : ℕ) → IsBest values at best most → length values - at ≤ most → (u : ℕ) → count_of values u ≤ most
none_left values at best most b le u =
    elim (seen values at best most u b) [
      | inl known ↦ known
      | inr fresh ↦ omega (arith, count_split values at u, fresh, count_few (drop at values) u, length-drop at values)
    ]

pub half : (values : List ℕ) (at best most : ℕ) → IsBest values at best most → length values - most ≤ most → (u : ℕ) → count_of values u ≤ most
half values at best most b le u =
    elim (cases_eq u best) [
      | inl e ↦ rw e (omega (arith, b.count))
      | inr ne ↦ omega (arith, two_few values u best ne, b.count)
    ]

-- The first of those that pass a test, where none before it does.
first_is : (p : ℕ → Bool) (xs : List ℕ) (k : ℕ) → k < length xs → p (get_or xs k 0) ≡ true → ((i : ℕ) → i < k → p (get_or xs i 0) ≡ false) → get_or (filter p xs) 0 0 ≡ get_or xs k 0
first_is p [] k lt e none = absurd (omega arith)
first_is p (x ∷ xs) zero lt e none = ap (λ b. get_or (cond b (x ∷ filter p xs) (filter p xs)) 0 0) e
first_is p (x ∷ xs) (suc k) lt e none =
    ap (λ b. get_or (cond b (x ∷ filter p xs) (filter p xs)) 0 0) (none 0 (omega arith)) ∙ first_is p xs k (omega arith) e (λ i li. none (suc i) (omega arith))

all_pass : (p : ℕ → Bool) (xs : List ℕ) → ((u : ℕ) → p u ≡ true) → Each (λ u. p u ≡ true) xs
all_pass p [] f = tt
all_pass p (x ∷ xs) f = (f x, all_pass p xs f)

pub best_is : (values : List ℕ) (at best most : ℕ) → IsBest values at best most → ((u : ℕ) → count_of values u ≤ most) → best ≡ most_frequent values
best_is values at best most b all =
    let inside : b.first < length values = omega (arith, b.below, b.upto) in
    let here : is_most_frequent values (get_or values b.first 0) ≡ true =
    rw b.is (all_from (λ u. nat_le (count_of values u) (count_of values best)) values (all_pass (λ u. nat_le (count_of values u) (count_of values best)) values (λ u. let a = all u in le-leb (count_of values u) (count_of values best) (omega (arith, a, b.count))))) in
    let none : (i : ℕ) → i < b.first → is_most_frequent values (get_or values i 0) ≡ false =
    λ i li. let less = b.before i li in
    list_all_at (λ u. nat_le (count_of values u) (count_of values (get_or values i 0))) values b.first 0 inside (rw b.is (lt-leb (count_of values best) (count_of values (get_or values i 0)) (omega (arith, less, b.count)))) in
    sym (first_is (is_most_frequent values) values b.first inside here none ∙ b.is)
