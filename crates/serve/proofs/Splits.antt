-- A text is an origin in one way at most: its two slashes stand behind the scheme.
use Rattle.std.proofs.Common.{◌≡◌, ◌≢◌, ◌∷◌, ◌++◌, ◌<◌, ◌∙◌, [], arith, get_or, length, List, Bor, refl, subst, suc, sym, ℕ}
use Rattle.std.specs.Prelude.{◌↔◌, codes, is_some, MatchOption, None, Option, Some, true}
use Rattle.serve.specs.Origins.{IsAnOrigin, IsOrigin, IsPart}

abbrev HasNoSlash : List ℕ → Type 0
HasNoSlash text = (k : ℕ) → k < length text → get_or text k 0 ≢ 47

rest : (x : ℕ) (xs : List ℕ) → HasNoSlash (x ∷ xs) → HasNoSlash xs
rest x xs free k within = free (suc k) (omega arith)

has : (zs ys : List ℕ) → HasNoSlash (zs ++ 58 ∷ 47 ∷ 47 ∷ ys) → ⊥
has [] ys free = free 1 (omega arith) refl
has (z ∷ zs) ys free = has zs ys (rest z (zs ++ 58 ∷ 47 ∷ 47 ∷ ys) free)

abbrev Same : ℕ → ℕ → Type 0
Same a b = a ≡ b

only : (s xs a ys : List ℕ) → HasNoSlash s → HasNoSlash a → s ++ (58 ∷ 47 ∷ 47 ∷ a) ≡ xs ++ (58 ∷ 47 ∷ 47 ∷ ys) → (s ≡ xs) × (a ≡ ys)
only [] [] a ys no_s no_a e = (refl, cc)
only [] (x ∷ []) a ys no_s no_a e = let same : Same 47 58 = cc in absurd (omega (arith, same))
only [] (x ∷ (y ∷ [])) a ys no_s no_a e = let same : Same 47 58 = cc in absurd (omega (arith, same))
only [] (x ∷ (y ∷ (z ∷ zs))) a ys no_s no_a e = let same : a ≡ zs ++ (58 ∷ 47 ∷ 47 ∷ ys) = cc in absurd (has zs ys (subst HasNoSlash same no_a))
only (c ∷ []) [] a ys no_s no_a e = let same : Same 58 47 = cc in absurd (omega (arith, same))
only (c ∷ (d ∷ s)) [] a ys no_s no_a e = absurd (no_s 1 (omega arith) cc)
only (c ∷ s) (x ∷ xs) a ys no_s no_a e =
    let more = only s xs a ys (rest c s no_s) no_a cc in
    let first : c ≡ x = cc in
    (cc (first, more.0), more.1)

-- Where a part of the only split is none, the text is no origin.
pub no_origin : (text xs ys : List ℕ) → text ≡ xs ++ (codes "://" ++ ys) → (IsPart xs → IsPart ys → ⊥) → IsAnOrigin text → ⊥
no_origin text xs ys split neither (scheme, authority, is) =
    let same = only scheme xs authority ys (λ k within. (is.scheme_is.1 k within).0) (λ k within. (is.authority_is.1 k within).0) (sym is.parts ∙ split) in
    neither (subst IsPart same.0 is.scheme_is) (subst IsPart same.1 is.authority_is)

-- Nor is one that can't be split.
pub no_split : (text : List ℕ) → ((xs ys : List ℕ) → text ≢ xs ++ (codes "://" ++ ys)) → IsAnOrigin text → ⊥
no_split text never (scheme, authority, is) = never scheme authority is.parts

-- What stands behind a scheme makes an origin.
pub is_one : (text : List ℕ) (authority : Option (Bor (List ℕ))) → MatchOption authority (IsAnOrigin text → ⊥) (λ part. (scheme : List ℕ) × IsOrigin text scheme part.now) → (is_some authority ≡ true) ↔ IsAnOrigin text
is_one text (Some part) (scheme, is) = (λ _. (scheme, part.now, is), λ _. refl)
is_one text None never = (λ e. absurd cc, λ origin. absurd (never origin))

-- An origin names one host.
pub same_host : (text scheme host its other : List ℕ) → IsOrigin text scheme host → IsOrigin text its other → host ≡ other
same_host text scheme host its other is known =
    (only scheme its host other (λ k within. (is.scheme_is.1 k within).0) (λ k within. (is.authority_is.1 k within).0) (sym is.parts ∙ known.parts)).1
