-- Bytes that are read in pieces are read as at once, and what a loop over them has put to the front.
use Rattle.std.proofs.Common.{◌≡◌, ℕ, ◌+◌, ◌<◌, ◌≤◌, List, [], ◌∷◌, ◌++◌, length, get_or, take, drop, set, Option, None, Some, refl, sym, ap, ◌∙◌, arith, append-nil}
use Rattle.std.proofs.lemmas.List.{take_more, take_more_set, drop-set-lt, drop-drop, get_or-drop, length-set}
use Rattle.web_frames.specs.Frames.{Standing, after_byte, brought, put, after_bytes, data_in}

pub after-append : (s : Standing) (xs ys : List ℕ) → after_bytes s (xs ++ ys) ≡ after_bytes (after_bytes s xs) ys
after-append s [] ys = refl
after-append s (x ∷ xs) ys = after-append (after_byte s x) xs ys

put-append : (o : Option ℕ) (xs ys : List ℕ) → put o (xs ++ ys) ≡ put o xs ++ ys
put-append None xs ys = refl
put-append (Some b) xs ys = refl

pub data-append : (s : Standing) (xs ys : List ℕ) → data_in s (xs ++ ys) ≡ data_in s xs ++ data_in (after_bytes s xs) ys
data-append s [] ys = refl
data-append s (x ∷ xs) ys =
    ap (put (brought s x)) (data-append (after_byte s x) xs ys)
    ∙ put-append (brought s x) (data_in (after_byte s x) xs) (data_in (after_bytes (after_byte s x) xs) ys)

-- A loop has read the first i bytes of old, and what they brought is at the front.
pub record IsRead (s now : Standing) (old piece : List ℕ) (i count : ℕ) : Type 0 where
  pub after : now ≡ after_bytes s (take i old)
  pub front : take count piece ≡ data_in s (take i old)
  pub rest : drop i piece ≡ drop i old
  pub size : length piece ≡ length old
  pub within : count ≤ i

pub read_begins : (s : Standing) (old : List ℕ) → IsRead s s old old 0 0
read_begins s old = record { after = refl; front = refl; rest = refl; size = refl; within = omega arith }

front_of : (xs : List ℕ) (i : ℕ) → get_or (drop i xs) 0 0 ≡ get_or xs i 0
front_of xs i = get_or-drop i xs 0 0 ∙ ap (λ k. get_or xs k 0) (omega arith)

same_byte : (old piece : List ℕ) (i : ℕ) → drop i piece ≡ drop i old → get_or piece i 0 ≡ get_or old i 0
same_byte old piece i e = sym (front_of piece i) ∙ (ap (λ xs. get_or xs 0 0) e ∙ front_of old i)

after_more : (s : Standing) (old : List ℕ) (i : ℕ) → i < length old → after_bytes s (take (i + 1) old) ≡ after_byte (after_bytes s (take i old)) (get_or old i 0)
after_more s old i lt = ap (after_bytes s) (take_more old i 0 lt) ∙ after-append s (take i old) (get_or old i 0 ∷ [])

data_more : (s : Standing) (old : List ℕ) (i : ℕ) → i < length old → data_in s (take (i + 1) old) ≡ data_in s (take i old) ++ put (brought (after_bytes s (take i old)) (get_or old i 0)) []
data_more s old i lt = ap (data_in s) (take_more old i 0 lt) ∙ data-append s (take i old) (get_or old i 0 ∷ [])

rest_more : (old piece : List ℕ) (i : ℕ) → drop i piece ≡ drop i old → drop (i + 1) piece ≡ drop (i + 1) old
rest_more old piece i e = sym (drop-drop 1 i piece) ∙ (ap (drop 1) e ∙ drop-drop 1 i old)

-- One more byte, which brings nothing.
pub read_none : (s now next : Standing) (old piece : List ℕ) (i count : ℕ) → IsRead s now old piece i count → i < length piece
    → next ≡ after_byte now (get_or piece i 0) → brought now (get_or piece i 0) ≡ None → IsRead s next old piece (i + 1) count
read_none s now next old piece i count k lt goes none =
    let same : get_or piece i 0 ≡ get_or old i 0 = same_byte old piece i k.rest in
    let lt_old : i < length old = omega (arith, lt, k.size) in
    let nothing : brought (after_bytes s (take i old)) (get_or old i 0) ≡ None = sym (ap (λ (n : Standing). brought n (get_or old i 0)) k.after) ∙ (sym (ap (brought now) same) ∙ none) in
    record {
      after = goes ∙ (ap (after_byte now) same ∙ (ap (λ (n : Standing). after_byte n (get_or old i 0)) k.after ∙ sym (after_more s old i lt_old)));
      front = k.front ∙ (sym (append-nil (data_in s (take i old))) ∙ (ap (λ o. data_in s (take i old) ++ put o []) (sym nothing) ∙ sym (data_more s old i lt_old)));
      rest = rest_more old piece i k.rest;
      size = k.size;
      within = omega (arith, k.within);
    }

-- One more byte, which brings this one.
pub read_some : (s now next : Standing) (old piece : List ℕ) (i count d : ℕ) → IsRead s now old piece i count → i < length piece
    → next ≡ after_byte now (get_or piece i 0) → brought now (get_or piece i 0) ≡ Some d → IsRead s next old (set piece count d) (i + 1) (count + 1)
read_some s now next old piece i count d k lt goes some =
    let same : get_or piece i 0 ≡ get_or old i 0 = same_byte old piece i k.rest in
    let lt_old : i < length old = omega (arith, lt, k.size) in
    let room : count < length piece = omega (arith, lt, k.within) in
    let behind : count < i + 1 = omega (arith, k.within) in
    let this : brought (after_bytes s (take i old)) (get_or old i 0) ≡ Some d = sym (ap (λ (n : Standing). brought n (get_or old i 0)) k.after) ∙ (sym (ap (brought now) same) ∙ some) in
    record {
      after = goes ∙ (ap (after_byte now) same ∙ (ap (λ (n : Standing). after_byte n (get_or old i 0)) k.after ∙ sym (after_more s old i lt_old)));
      front = take_more_set piece count d room ∙ (ap (λ xs. xs ++ d ∷ []) k.front ∙ (ap (λ o. data_in s (take i old) ++ put o []) (sym this) ∙ sym (data_more s old i lt_old)));
      rest = drop-set-lt (i + 1) piece count d behind ∙ rest_more old piece i k.rest;
      size = length-set piece count d ∙ k.size;
      within = omega (arith, k.within);
    }
