-- Histories that grow. What an end knows is one, and stays one.
use Rattle.std.proofs.Common.{◌≡◌, ℕ, suc, ◌+◌, ◌*◌, ◌-◌, ◌/◌, ◌<◌, ◌≤◌, ◌⊎◌, inl, inr, ⊎_elim, List, [], ◌∷◌, ◌++◌, length, take, refl, ap, sym, ◌∙◌, subst, arith, length-append, append-nil}
use Rattle.std.proofs.lemmas.Bool.{cases_lt}
use Rattle.std.proofs.lemmas.List.{take-append-le, take_all}
use Rattle.raster.specs.Update.{Update}
use Rattle.reflect_core.specs.Sequential.{Begins}
use Rattle.shared_screen.specs.History.{Change, Put, Raise, puts_of, tally_from, tally_of, TakeTurns, IsLegal, ArePublished, IsBacked}
use Rattle.shared_screen.proofs.Beginnings.{begins_whole, begins_length}

pub puts-append : (xs ys : List Change) → puts_of (xs ++ ys) ≡ puts_of xs ++ puts_of ys
puts-append [] ys = refl
puts-append (Put u ∷ xs) ys = ap (λ (l : List Update). u ∷ l) (puts-append xs ys)
puts-append (Raise m ∷ xs) ys = puts-append xs ys

pub begins_puts : (xs ys : List Change) → Begins xs ys → Begins (puts_of xs) (puts_of ys)
begins_puts xs ys p = (puts_of p.0, ap puts_of p.1 ∙ puts-append xs p.0)

pub tally-append : (t : ℕ) (xs ys : List Change) → tally_from t (xs ++ ys) ≡ tally_from (tally_from t xs) ys
tally-append t [] ys = refl
tally-append t (Put u ∷ xs) ys = tally-append t xs ys
tally-append t (Raise m ∷ xs) ys = tally-append m xs ys

-- ---- one change more

legal_put_from : (n t : ℕ) (cs : List Change) (u : Update) → TakeTurns n t cs → tally_from t cs ≡ n + length (puts_of cs) → TakeTurns n t (cs ++ Put u ∷ [])
legal_put_from n t [] u h at = (omega arith, tt)
legal_put_from n t (Put v ∷ cs) u h at = (h.0, legal_put_from (suc n) t cs u h.1 (omega arith))
legal_put_from n t (Raise m ∷ cs) u h at = (h.0, h.1, legal_put_from n m cs u h.2 at)

pub legal_put : (cs : List Change) (u : Update) → IsLegal cs → tally_of cs ≡ length (puts_of cs) → IsLegal (cs ++ Put u ∷ [])
legal_put cs u h at = legal_put_from 0 0 cs u h (omega arith)

legal_raise_from : (n t : ℕ) (cs : List Change) (m : ℕ) → TakeTurns n t cs → m ≡ n + length (puts_of cs) → m ≡ tally_from t cs + 1 → TakeTurns n t (cs ++ Raise m ∷ [])
legal_raise_from n t [] m h a b = (omega arith, omega arith, tt)
legal_raise_from n t (Put v ∷ cs) m h a b = (h.0, legal_raise_from (suc n) t cs m h.1 (omega arith) b)
legal_raise_from n t (Raise k ∷ cs) m h a b = (h.0, h.1, legal_raise_from n k cs m h.2 a b)

pub legal_raise : (cs : List Change) (m : ℕ) → IsLegal cs → m ≡ length (puts_of cs) → m ≡ tally_of cs + 1 → IsLegal (cs ++ Raise m ∷ [])
legal_raise cs m h a b = legal_raise_from 0 0 cs m h (omega arith) b

-- Where a put was legal, all before it was raised.
raised_before_from : (n t : ℕ) (cs : List Change) (u : Update) → TakeTurns n t (cs ++ Put u ∷ []) → tally_from t cs ≡ n + length (puts_of cs)
raised_before_from n t [] u h = omega (arith, h.0)
raised_before_from n t (Put v ∷ cs) u h = let r = raised_before_from (suc n) t cs u h.1 in omega arith
raised_before_from n t (Raise m ∷ cs) u h = raised_before_from n m cs u h.2

pub raised_before : (cs : List Change) (u : Update) → IsLegal (cs ++ Put u ∷ []) → tally_of cs ≡ length (puts_of cs)
raised_before cs u h = omega (arith, raised_before_from 0 0 cs u h)

-- ---- the tally never falls

rises_from : (n t : ℕ) (cs : List Change) → t ≤ n → TakeTurns n t cs → t ≤ tally_from t cs
rises_from n t [] low h = omega arith
rises_from n t (Put v ∷ cs) low h = rises_from (suc n) t cs (omega arith) h.1
rises_from n t (Raise m ∷ cs) low h = let a = h.0 in let b = h.1 in let up = rises_from n m cs (omega arith) h.2 in omega arith

rises_by : (n t : ℕ) (xs ys : List Change) → t ≤ n → TakeTurns n t (xs ++ ys) → tally_from t xs ≤ tally_from t (xs ++ ys)
rises_by n t [] ys low h = rises_from n t ys low h
rises_by n t (Put u ∷ xs) ys low h = rises_by (suc n) t xs ys (omega arith) h.1
rises_by n t (Raise m ∷ xs) ys low h = let b = h.1 in rises_by n m xs ys (omega arith) h.2

pub tally_rises : (xs ys : List Change) → Begins xs ys → IsLegal ys → tally_of xs ≤ tally_of ys
tally_rises xs ys p h = subst (λ (l : List Change). tally_of xs ≤ tally_of l) (sym p.1) (rises_by 0 0 xs p.0 (omega arith) (subst IsLegal p.1 h))

-- ---- how many changes, updates and raises there are

counts_from : (n t : ℕ) (cs : List Change) → (n ≡ t) ⊎ (n ≡ suc t) → TakeTurns n t cs
    → ((n + t) + length cs ≡ (n + length (puts_of cs)) + tally_from t cs) × ((n + length (puts_of cs) ≡ tally_from t cs) ⊎ (n + length (puts_of cs) ≡ suc (tally_from t cs)))
counts_from n t [] near h = (omega arith, ⊎_elim (λ e. inl (omega arith)) (λ e. inr (omega arith)) near)
counts_from n t (Put u ∷ cs) near h = let a = h.0 in let r = counts_from (suc n) t cs (inr (omega arith)) h.1 in let c = r.0 in (omega arith, ⊎_elim (λ e. inl (omega arith)) (λ e. inr (omega arith)) r.1)
counts_from n t (Raise m ∷ cs) near h = let a = h.0 in let b = h.1 in let r = counts_from n m cs (inl (omega arith)) h.2 in let c = r.0 in (omega arith, r.1)

pub counts : (cs : List Change) → IsLegal cs → (length cs ≡ length (puts_of cs) + tally_of cs) × ((length (puts_of cs) ≡ tally_of cs) ⊎ (length (puts_of cs) ≡ suc (tally_of cs)))
counts cs h = let r = counts_from 0 0 cs (inl refl) h in let c = r.0 in (omega arith, ⊎_elim (λ e. inl (omega arith)) (λ e. inr (omega arith)) r.1)

pub tally_half : (cs : List Change) (w : ℕ) → IsLegal cs → w ≡ length cs → w / 2 ≡ tally_of cs
tally_half cs w h e = let r = counts cs h in let c = r.0 in ⊎_elim (λ (d : length (puts_of cs) ≡ tally_of cs). let a : w ≡ 2 * tally_of cs = omega arith in omega arith) (λ (d : length (puts_of cs) ≡ suc (tally_of cs)). omega arith) r.1

pub tally_below : (cs : List Change) → IsLegal cs → tally_of cs ≤ length (puts_of cs)
tally_below cs h = let r = counts cs h in ⊎_elim (λ d. omega arith) (λ d. omega arith) r.1

-- ---- what is published

-- Updates that are published are so in each list that begins with them.
pub published_in : (published : List Update → Type 0) (t : ℕ) (us vs : List Update) → Begins us vs → t ≤ length us → ArePublished published t us → ArePublished published t vs
published_in published t us vs begins fits h = record {
  first = λ n low up.
      let same : take n vs ≡ take n us = ap (take n) begins.1 ∙ take-append-le n us begins.0 (omega arith) in
      subst published (sym same) (h.first n low up);
}

-- And so are those of a beginning of the list.
pub published_of : (published : List Update → Type 0) (t k : ℕ) (us vs : List Update) → Begins vs us → k ≤ length vs → k ≤ t → ArePublished published t us → ArePublished published k vs
published_of published t k us vs begins fits low h = record {
  first = λ n one up.
      let same : take n us ≡ take n vs = ap (take n) begins.1 ∙ take-append-le n vs begins.0 (omega arith) in
      subst published same (h.first n one (omega arith));
}

pub backed_put : (published : List Update → Type 0) (cs : List Change) (u : Update) → IsLegal cs → IsBacked published cs → IsBacked published (cs ++ Put u ∷ [])
backed_put published cs u legal h =
    let tally : tally_of cs ≡ tally_of (cs ++ Put u ∷ []) = sym (tally-append 0 cs (Put u ∷ [])) in
    let begins : Begins (puts_of cs) (puts_of (cs ++ Put u ∷ [])) = (u ∷ [], puts-append cs (Put u ∷ [])) in
    subst (λ (t : ℕ). ArePublished published t (puts_of (cs ++ Put u ∷ []))) tally (published_in published (tally_of cs) (puts_of cs) (puts_of (cs ++ Put u ∷ [])) begins (tally_below cs legal) h)

pub backed_raise : (published : List Update → Type 0) (cs : List Change) (m : ℕ) → IsBacked published cs → published (puts_of cs) → m ≡ length (puts_of cs) → m ≡ tally_of cs + 1 → IsBacked published (cs ++ Raise m ∷ [])
backed_raise published cs m h all whole next =
    let tally : m ≡ tally_of (cs ++ Raise m ∷ []) = sym (tally-append 0 cs (Raise m ∷ [])) in
    let puts : puts_of cs ≡ puts_of (cs ++ Raise m ∷ []) = sym (puts-append cs (Raise m ∷ []) ∙ append-nil (puts_of cs)) in
    let each : ArePublished published m (puts_of cs) = record {
      first = λ n low up. ⊎_elim
          (λ (less : n < m). h.first n low (omega arith))
          (λ (most : m ≤ n). subst published (sym (take_all n (puts_of cs) (omega arith))) all)
          (cases_lt n m);
    } in
    subst (λ (t : ℕ). ArePublished published t (puts_of (cs ++ Raise m ∷ []))) tally (subst (ArePublished published m) puts each)

-- A beginning with as many updates has the same.
pub same_puts : (xs ys : List Change) → Begins xs ys → length (puts_of ys) ≤ length (puts_of xs) → puts_of xs ≡ puts_of ys
same_puts xs ys p le = begins_whole (puts_of xs) (puts_of ys) (begins_puts xs ys p) le

pub puts_grow : (xs ys : List Change) → Begins xs ys → length (puts_of xs) ≤ length (puts_of ys)
puts_grow xs ys p = begins_length (puts_of xs) (puts_of ys) (begins_puts xs ys p)

-- ---- what a put leaves to be raised

pub put_leaves : (cs front : List Change) (u : Update) → front ≡ cs ++ Put u ∷ [] → IsLegal front
    → (length front ≡ 2 * length (puts_of front) - 1) × (length (puts_of front) ≡ tally_of front + 1) × (1 ≤ length (puts_of front))
put_leaves cs front u is legal =
    let before = raised_before cs u (subst IsLegal is legal) in
    let puts : length (puts_of front) ≡ length (puts_of cs) + 1 = ap (λ l. length (puts_of l)) is ∙ (ap length (puts-append cs (Put u ∷ [])) ∙ length-append (puts_of cs) (u ∷ [])) in
    let tally : tally_of front ≡ tally_of cs = ap tally_of is ∙ tally-append 0 cs (Put u ∷ []) in
    let all = (counts front legal).0 in
    (omega arith, omega arith, omega arith)
