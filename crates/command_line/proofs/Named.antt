-- What holds of the rule of a name, wherever it stands among the others. Of a name that is written out, which rule that
-- is computes.
use Rattle.std.proofs.Common.{◌≡◌, ◌⊎◌, ◌<◌, arith, cond, false, inl, inr, refl, suc, sym, true, zero, Bool, ℕ, List, [], ◌∷◌, length, ◌∙◌}
use Rattle.std.specs.List.{AllByRecursion, filter, slice_index_or}
use Rattle.std.specs.Str.{bytes_eq}
use Rattle.std.proofs.lemmas.Slice.Eq.{bytes_eq-Decides}
use Rattle.clap.specs.Words.{Rule, Text}

-- the rules of this name
abbrev pub named : Text → List Rule → List Rule
named id rules = filter (λ r. bytes_eq r.id id) rules

-- each rule is another's, or has what those of the name have
pub all_named : (P : Rule → Type 0) (id : Text) (rules : List Rule) → AllByRecursion P (named id rules)
    → AllByRecursion (λ r. (bytes_eq r.id id ≡ false) ⊎ P r) rules
all_named P id [] all = tt
all_named P id (r ∷ rules) all = go (bytes_eq r.id id) refl all (all_named P id rules)
  where
    go : (b : Bool) → bytes_eq r.id id ≡ b → AllByRecursion P (cond b (r ∷ named id rules) (named id rules))
        → (AllByRecursion P (named id rules) → AllByRecursion (λ r. (bytes_eq r.id id ≡ false) ⊎ P r) rules)
        → ((bytes_eq r.id id ≡ false) ⊎ P r) × AllByRecursion (λ r. (bytes_eq r.id id ≡ false) ⊎ P r) rules
    go true is all rest = (inr all.0, rest all.1)
    go false is all rest = (inl is, rest all)

-- the same of each rule that has the name
pub each_named : (P : Rule → Type 0) (id : Text) (rules : List Rule) → AllByRecursion P (named id rules)
    → AllByRecursion (λ r. bytes_eq r.id id ≡ true → P r) rules
each_named P id [] all = tt
each_named P id (r ∷ rules) all = go (bytes_eq r.id id) refl all (each_named P id rules)
  where
    go : (b : Bool) → bytes_eq r.id id ≡ b → AllByRecursion P (cond b (r ∷ named id rules) (named id rules))
        → (AllByRecursion P (named id rules) → AllByRecursion (λ r. bytes_eq r.id id ≡ true → P r) rules)
        → (bytes_eq r.id id ≡ true → P r) × AllByRecursion (λ r. bytes_eq r.id id ≡ true → P r) rules
    go true is all rest = ((λ e. all.0), rest all.1)
    go false is all rest = ((λ e. let bad : false ≡ true = sym is ∙ e in cc), rest all)

-- one rule has the name
pub placed : (P : Rule → Type 0) (id : Text) (rules : List Rule) (d : Rule) → 0 < length (named id rules) → AllByRecursion P (named id rules)
    → (k : ℕ) × (k < length rules) × ((slice_index_or rules k d).id ≡ id) × P (slice_index_or rules k d)
placed P id [] d some all = absurd (omega arith)
placed P id (r ∷ rules) d some all = go (bytes_eq r.id id) refl some all (placed P id rules d)
  where
    go : (b : Bool) → bytes_eq r.id id ≡ b → 0 < length (cond b (r ∷ named id rules) (named id rules))
        → AllByRecursion P (cond b (r ∷ named id rules) (named id rules))
        → (0 < length (named id rules) → AllByRecursion P (named id rules)
        → (k : ℕ) × (k < length rules) × ((slice_index_or rules k d).id ≡ id) × P (slice_index_or rules k d))
        → (k : ℕ) × (k < length (r ∷ rules)) × ((slice_index_or (r ∷ rules) k d).id ≡ id) × P (slice_index_or (r ∷ rules) k d)
    go true is some all rest = (zero, omega arith, (bytes_eq-Decides r.id id).0 is, all.0)
    go false is some all rest = let p = rest some all in (suc p.0, omega arith, p.2, p.3)
