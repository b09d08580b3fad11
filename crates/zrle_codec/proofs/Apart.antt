-- What stands in front of other bytes can be told from these: of two lists of bytes that are equal, the first CPIXELs
-- and the first runs are received alike, and what stands behind them is equal.
use Rattle.std.proofs.Common.{◌≡◌, ℕ, zero, suc, ◌+◌, ◌-◌, ◌/◌, ◌%◌, ◌<◌, ◌≤◌, Bool, true, false, cond, List, [], ◌∷◌, ◌++◌, ◌∙◌, length, map, take, drop, replicate, refl, sym, ap, arith, append_assoc, length-append, length-drop}
use Rattle.std.specs.Prelude.{◌==◌, slice_index}
use Rattle.std.specs.List.{flat_map, AllByRecursion}
use Rattle.std.proofs.Math.Seq.{take-append_seam, drop-append_seam}
use Rattle.std.proofs.lemmas.Bool.{eqb-true}
use Rattle.std.proofs.lemmas.List.{length-take, length-replicate, map-append}
use Rattle.pixel_format.specs.PixelFormat.{PixelFormat, pixel_bytes}
use Rattle.pixel_format.proofs.Pixels.{pixel_size}
use Rattle.zrle_codec.specs.Cpixel.{cpixel_bytes, cpixel_from, cpixel_len, cpixel_value, received}
use Rattle.zrle_codec.specs.Tiles.{Run, run_shows, len_bytes, plain_run_bytes, index_run_bytes}

-- as many bytes before others
pub same_front : (xs ys r q : List ℕ) → length xs ≡ length ys → xs ++ r ≡ ys ++ q → (xs ≡ ys) × (r ≡ q)
same_front xs ys r q size same = (
  sym (take-append_seam xs r) ∙ (ap (λ t. take (length xs) t) same ∙ (ap (λ n. take n (ys ++ q)) size ∙ take-append_seam ys q)),
  sym (drop-append_seam xs r) ∙ (ap (λ t. drop (length xs) t) same ∙ (ap (λ n. drop n (ys ++ q)) size ∙ drop-append_seam ys q)),
)

-- ---- CPIXELs

cpixel_as_long : (format : PixelFormat) (u v : ℕ) → length (cpixel_bytes format u) ≡ length (cpixel_bytes format v)
unfolding cpixel_bytes
cpixel_as_long format u v =
    let a = length-take (cpixel_len format) (drop (cpixel_from format) (pixel_bytes format u)) in
    let b = length-take (cpixel_len format) (drop (cpixel_from format) (pixel_bytes format v)) in
    omega (arith, a, b, length-drop (cpixel_from format) (pixel_bytes format u), length-drop (cpixel_from format) (pixel_bytes format v), pixel_size format u, pixel_size format v)

-- a CPIXEL before other bytes
pub record SameCpixel (format : PixelFormat) (u v : ℕ) (r q : List ℕ) : Type 0 where
  pub bytes : cpixel_bytes format u ≡ cpixel_bytes format v
  pub seen : received format u ≡ received format v
  pub rest : r ≡ q

pub cpixel_apart : (format : PixelFormat) (u v : ℕ) (r q : List ℕ) → cpixel_bytes format u ++ r ≡ cpixel_bytes format v ++ q → SameCpixel format u v r q
unfolding received
cpixel_apart format u v r q same =
    let parts = same_front (cpixel_bytes format u) (cpixel_bytes format v) r q (cpixel_as_long format u v) same in
    record { bytes = parts.0; seen = ap (cpixel_value format) parts.0; rest = parts.1 }

-- as many CPIXELs before other bytes
pub record SameCpixels (format : PixelFormat) (us vs r q : List ℕ) : Type 0 where
  pub bytes : flat_map (cpixel_bytes format) us ≡ flat_map (cpixel_bytes format) vs
  pub seen : map (received format) us ≡ map (received format) vs
  pub rest : r ≡ q

pub cpixels_apart : (format : PixelFormat) (us vs r q : List ℕ) → length us ≡ length vs → flat_map (cpixel_bytes format) us ++ r ≡ flat_map (cpixel_bytes format) vs ++ q → SameCpixels format us vs r q
cpixels_apart format [] [] r q size same = record { bytes = refl; seen = refl; rest = same }
cpixels_apart format [] (v ∷ vs) r q size same = absurd (omega (arith, size))
cpixels_apart format (u ∷ us) [] r q size same = absurd (omega (arith, size))
cpixels_apart format (u ∷ us) (v ∷ vs) r q size same =
    let all : List ℕ → List ℕ = flat_map (cpixel_bytes format) in
    let first = cpixel_apart format u v (all us ++ r) (all vs ++ q) (sym (append_assoc (cpixel_bytes format u) (all us) r) ∙ (same ∙ append_assoc (cpixel_bytes format v) (all vs) q)) in
    let others = cpixels_apart format us vs r q (omega (arith, size)) first.rest in
    record {
      bytes = ap (λ t. t ++ all us) first.bytes ∙ ap (λ t. cpixel_bytes format v ++ t) others.bytes;
      seen = ap (λ n. n ∷ map (received format) us) first.seen ∙ ap (λ t. received format v ∷ t) others.seen;
      rest = others.rest;
    }

-- ---- lengths of runs

full_apart : (a b x y : ℕ) (r q : List ℕ) → x < 255 → y < 255 → replicate a 255 ++ x ∷ r ≡ replicate b 255 ++ y ∷ q → (a ≡ b) × (x ≡ y) × (r ≡ q)
full_apart zero zero x y r q one two same = (refl, ap (λ t. slice_index t 0) same, ap (λ t. drop 1 t) same)
full_apart zero (suc b) x y r q one two same = let head : x ≡ 255 = ap (λ t. slice_index t 0) same in absurd (omega arith)
full_apart (suc a) zero x y r q one two same = let head : 255 ≡ y = ap (λ t. slice_index t 0) same in absurd (omega arith)
full_apart (suc a) (suc b) x y r q one two same =
    let parts = full_apart a b x y r q one two (ap (λ t. drop 1 t) same) in
    (ap suc parts.0, parts.1, parts.2)

-- a length before other bytes
pub lens_apart : (m n : ℕ) (r q : List ℕ) → 1 ≤ m → 1 ≤ n → len_bytes m ++ r ≡ len_bytes n ++ q → (m ≡ n) × (r ≡ q)
unfolding len_bytes
lens_apart m n r q one two same =
    let parts = full_apart ((m - 1) / 255) ((n - 1) / 255) ((m - 1) % 255) ((n - 1) % 255) r q (omega arith) (omega arith)
    (sym (append_assoc (replicate ((m - 1) / 255) 255) ((m - 1) % 255 ∷ []) r) ∙ (same ∙ append_assoc (replicate ((n - 1) / 255) 255) ((n - 1) % 255 ∷ []) q)) in
    (omega (arith, parts.0, parts.1), parts.2)

-- ---- runs of pixel values

pub map-replicated : (f : ℕ → ℕ) (n v : ℕ) → map f (replicate n v) ≡ replicate n (f v)
map-replicated f zero v = refl
map-replicated f (suc n) v = ap (λ t. f v ∷ t) (map-replicated f n v)

pub shows-length : (x : Run) (xs : List Run) → length (flat_map run_shows (x ∷ xs)) ≡ x.len + length (flat_map run_shows xs)
unfolding run_shows
shows-length x xs = omega (arith, length-append (run_shows x) (flat_map run_shows xs), length-replicate x.len x.value)

-- what is received of a run and what follows
run_seen : (f : ℕ → ℕ) (x : Run) (xs : List Run) → map f (flat_map run_shows (x ∷ xs)) ≡ replicate x.len (f x.value) ++ map f (flat_map run_shows xs)
unfolding run_shows
run_seen f x xs = map-append f (run_shows x) (flat_map run_shows xs) ∙ ap (λ t. t ++ map f (flat_map run_shows xs)) (map-replicated f x.len x.value)

pub record SameRuns (format : PixelFormat) (xs ys : List Run) (r q : List ℕ) : Type 0 where
  pub bytes : flat_map (plain_run_bytes format) xs ≡ flat_map (plain_run_bytes format) ys
  pub seen : map (received format) (flat_map run_shows xs) ≡ map (received format) (flat_map run_shows ys)
  pub rest : r ≡ q

-- runs before other bytes: they end where they have drawn as much as the others
pub runs_apart : (format : PixelFormat) (xs ys : List Run) (r q : List ℕ) → AllByRecursion (λ x. 1 ≤ x.len) xs → AllByRecursion (λ y. 1 ≤ y.len) ys
    → length (flat_map run_shows xs) ≡ length (flat_map run_shows ys) → flat_map (plain_run_bytes format) xs ++ r ≡ flat_map (plain_run_bytes format) ys ++ q → SameRuns format xs ys r q
unfolding plain_run_bytes
runs_apart format [] [] r q one two size same = record { bytes = refl; seen = refl; rest = same }
runs_apart format [] (y ∷ ys) r q one two size same = absurd (omega (arith, size, shows-length y ys, two.0))
runs_apart format (x ∷ xs) [] r q one two size same = absurd (omega (arith, size, shows-length x xs, one.0))
runs_apart format (x ∷ xs) (y ∷ ys) r q one two size same =
    let all : List Run → List ℕ = flat_map (plain_run_bytes format) in
    let f : ℕ → ℕ = received format in
    let spread : (z : Run) (t rest : List ℕ) → (plain_run_bytes format z ++ t) ++ rest ≡ cpixel_bytes format z.value ++ (len_bytes z.len ++ (t ++ rest)) = λ z t rest.
    append_assoc (plain_run_bytes format z) t rest ∙ append_assoc (cpixel_bytes format z.value) (len_bytes z.len) (t ++ rest) in
    let value = cpixel_apart format x.value y.value (len_bytes x.len ++ (all xs ++ r)) (len_bytes y.len ++ (all ys ++ q)) (sym (spread x (all xs) r) ∙ (same ∙ spread y (all ys) q)) in
    let len = lens_apart x.len y.len (all xs ++ r) (all ys ++ q) one.0 two.0 value.rest in
    let others = runs_apart format xs ys r q one.1 two.1 (omega (arith, size, shows-length x xs, shows-length y ys, len.0)) len.1 in
    record {
      bytes = ap (λ t. (t ++ len_bytes x.len) ++ all xs) value.bytes ∙ (ap (λ n. (cpixel_bytes format y.value ++ len_bytes n) ++ all xs) len.0 ∙ ap (λ t. plain_run_bytes format y ++ t) others.bytes);
      seen =
          run_seen f x xs ∙ (ap (λ v. replicate x.len v ++ map f (flat_map run_shows xs)) value.seen ∙ (ap (λ n. replicate n (f y.value) ++ map f (flat_map run_shows xs)) len.0
          ∙ (ap (λ t. replicate y.len (f y.value) ++ t) others.seen ∙ sym (run_seen f y ys))));
      rest = others.rest;
    }

-- ---- runs of indices

index_run_by : (bx by : Bool) (v n u m : ℕ) (r q : List ℕ) → (n == 1) ≡ bx → (m == 1) ≡ by → v < 128 → u < 128 → 1 ≤ n → 1 ≤ m
    → cond bx (v ∷ []) ((v + 128) ∷ len_bytes n) ++ r ≡ cond by (u ∷ []) ((u + 128) ∷ len_bytes m) ++ q → (v ≡ u) × (n ≡ m) × (r ≡ q)
index_run_by true true v n u m r q one two lv lu ln lm same = (ap (λ t. slice_index t 0) same, eqb-true n 1 one ∙ sym (eqb-true m 1 two), ap (λ t. drop 1 t) same)
index_run_by true false v n u m r q one two lv lu ln lm same = let head : v ≡ u + 128 = ap (λ t. slice_index t 0) same in absurd (omega arith)
index_run_by false true v n u m r q one two lv lu ln lm same = let head : v + 128 ≡ u = ap (λ t. slice_index t 0) same in absurd (omega arith)
index_run_by false false v n u m r q one two lv lu ln lm same =
    let head : v + 128 ≡ u + 128 = ap (λ t. slice_index t 0) same in
    let len = lens_apart n m r q ln lm (ap (λ t. drop 1 t) same) in
    (omega arith, len.0, len.1)

index_run_apart : (x y : Run) (r q : List ℕ) → x.value < 128 → y.value < 128 → 1 ≤ x.len → 1 ≤ y.len → index_run_bytes x ++ r ≡ index_run_bytes y ++ q → (x.value ≡ y.value) × (x.len ≡ y.len) × (r ≡ q)
unfolding index_run_bytes
index_run_apart x y r q lv lu ln lm same = index_run_by (x.len == 1) (y.len == 1) x.value x.len y.value y.len r q refl refl lv lu ln lm same

-- runs of indices, none of which is empty or has the eighth bit
abbrev pub AreIndexRuns : List Run → Type 0
AreIndexRuns runs = AllByRecursion (λ x. (1 ≤ x.len) × (x.value < 128)) runs

pub record SameIndices (xs ys : List Run) (r q : List ℕ) : Type 0 where
  pub bytes : flat_map index_run_bytes xs ≡ flat_map index_run_bytes ys
  pub shown : flat_map run_shows xs ≡ flat_map run_shows ys
  pub rest : r ≡ q

pub index_runs_apart : (xs ys : List Run) (r q : List ℕ) → AreIndexRuns xs → AreIndexRuns ys
    → length (flat_map run_shows xs) ≡ length (flat_map run_shows ys) → flat_map index_run_bytes xs ++ r ≡ flat_map index_run_bytes ys ++ q → SameIndices xs ys r q
unfolding run_shows index_run_bytes
index_runs_apart [] [] r q one two size same = record { bytes = refl; shown = refl; rest = same }
index_runs_apart [] (y ∷ ys) r q one two size same = absurd (omega (arith, size, shows-length y ys, two.0.0))
index_runs_apart (x ∷ xs) [] r q one two size same = absurd (omega (arith, size, shows-length x xs, one.0.0))
index_runs_apart (x ∷ xs) (y ∷ ys) r q one two size same =
    let all : List Run → List ℕ = flat_map index_run_bytes in
    let spelled : ℕ → ℕ → List ℕ = λ v n. index_run_bytes (record { value = v; len = n }) in
    let first = index_run_apart x y (all xs ++ r) (all ys ++ q) one.0.1 two.0.1 one.0.0 two.0.0 (sym (append_assoc (index_run_bytes x) (all xs) r) ∙ (same ∙ append_assoc (index_run_bytes y) (all ys) q)) in
    let others = index_runs_apart xs ys r q one.1 two.1 (omega (arith, size, shows-length x xs, shows-length y ys, first.1)) first.2 in
    record {
      bytes = ap (λ v. spelled v x.len ++ all xs) first.0 ∙ (ap (λ n. spelled y.value n ++ all xs) first.1 ∙ ap (λ t. index_run_bytes y ++ t) others.bytes);
      shown = ap (λ v. replicate x.len v ++ flat_map run_shows xs) first.0 ∙ (ap (λ n. replicate n y.value ++ flat_map run_shows xs) first.1 ∙ ap (λ t. run_shows y ++ t) others.shown);
      rest = others.rest;
    }
