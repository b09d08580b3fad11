-- How many runs there are. `has_runs` tells it before one is written.
use Rattle.std.proofs.Common.{◌≡◌, ℕ, zero, suc, Bool, true, false, not, ◌&&◌, ◌||◌, cond, List, [], ◌∷◌, ◌++◌, length, length-append, get_or, refl, sym, ap, ◌∙◌, ◌+◌, ◌-◌, ◌*◌, ◌<◌, ◌≤◌, arith}
use Rattle.std.specs.Prelude.{◌==◌, filter}
use Rattle.std.proofs.lemmas.Bool.{eq-eqb, eqb-true, ne_eqb}
use Rattle.std.specs.List.{flat_map, range_with_len}
use Rattle.std.proofs.lemmas.List.{length-map, append-nil}
use Rattle.std.proofs.lemmas.Grind.{flat_map-append}
use Rattle.std.proofs.lemmas.List.Elements.{filter-append}
use mir.Val.{bool_byte}
use Rattle.raster.specs.declared.rect.Rect.{Rect}
use Rattle.raster.specs.Screen.{Canvas, value_at, part_of}
use Rattle.raster.specs.Encoding.{Subrect, begins_run, runs, runs_of_row}
use Rattle.raster.specs.RowShown.{row_shows}
use Rattle.raster.proofs.AreaRows.{row_same, tile_row, tile_row_len, tile_row_at}

-- How many runs begin in front of x.
abbrev pub begun : List ℕ → ℕ → ℕ → ℕ → ℕ
begun row background y x = length (filter (begins_run (row_shows row) background y) (range_with_len 0 x))

range_more : (a n : ℕ) → range_with_len a (n + 1) ≡ range_with_len a n ++ (a + n) ∷ []
range_more a zero = let z : a + 0 ≡ a = omega arith in rw z refl
range_more a (suc n) =
    let z : a + suc n ≡ a + 1 + n = omega arith in
    let s : suc n + 1 ≡ suc (n + 1) = omega arith in
    rw s (ap (λ t. a ∷ t) (range_more (a + 1) n ∙ ap (λ k. range_with_len (a + 1) n ++ k ∷ []) (sym z)))

abbrev pub one_or_none : Bool → ℕ
one_or_none b = cond b 1 0

one_of : (b : Bool) (x : ℕ) → length (cond b (x ∷ []) []) ≡ one_or_none b
one_of true x = refl
one_of false x = refl

pub begun_more : (row : List ℕ) (background y x : ℕ) → begun row background y (x + 1) ≡ begun row background y x + one_or_none (begins_run (row_shows row) background y x)
begun_more row background y x =
    let p : ℕ → Bool = begins_run (row_shows row) background y in
    let z : 0 + x ≡ x = omega arith in
    ap (λ t. length (filter p t)) (rw z at (range_more 0 x))
    ∙ (ap length (filter-append p (range_with_len 0 x) (x ∷ [])) ∙ (length-append (filter p (range_with_len 0 x)) (filter p (x ∷ [])) ∙ ap (λ n. begun row background y x + n) (one_of (p x) x)))

pub all_begun : (row : List ℕ) (background y : ℕ) → length (runs_of_row (row_shows row) background (length row) y) ≡ begun row background y (length row)
all_begun row background y = length-map (filter (begins_run (row_shows row) background y) (range_with_len 0 (length row))) _

-- The test of a position after the first.
pub begins_behind : (a b z : Bool) → z ≡ false → bool_byte (not a && not b) ≡ one_or_none (not a && (z || not b))
begins_behind true b z e = refl
begins_behind false true false e = refl
begins_behind false false false e = refl
begins_behind a b true e = absurd cc

-- That of the first, which stands as if after the background.
pub begins_first : (a b c : Bool) → b ≡ a → bool_byte (not a && not b) ≡ one_or_none (not a && (true || c))
begins_first true b c e = refl
begins_first false true c e = absurd cc
begins_first false false c e = refl

both_or_neither : (p q : Bool) → (p ≡ true → q ≡ true) → (q ≡ true → p ≡ true) → p ≡ q
both_or_neither true true f g = refl
both_or_neither true false f g = sym (f refl)
both_or_neither false true f g = g refl
both_or_neither false false f g = refl

same_turned : (a b : ℕ) → (a == b) ≡ (b == a)
same_turned a b = both_or_neither (a == b) (b == a) (λ e. eq-eqb b a (sym (eqb-true a b e))) (λ e. eq-eqb a b (sym (eqb-true b a e)))

-- Either is the test of where a run begins.
pub begins_at : (row : List ℕ) (background y x before : ℕ) → (x ≡ 0 → before ≡ background) → (0 < x → before ≡ get_or row (x - 1) 0)
    → bool_byte (not (get_or row x 0 == background) && not (before == get_or row x 0)) ≡ one_or_none (begins_run (row_shows row) background y x)
begins_at row background y zero before first behind =
    begins_first (get_or row 0 0 == background) (before == get_or row 0 0) (not (get_or row 0 0 == get_or row 0 0)) (ap (λ n. n == get_or row 0 0) (first refl) ∙ same_turned background (get_or row 0 0))
begins_at row background y (suc x) before first behind =
    let there : suc x - 1 ≡ x = omega arith in
    ap (λ n. bool_byte (not (get_or row (suc x) 0 == background) && not (n == get_or row (suc x) 0))) (behind (omega arith))
    ∙ begins_behind (get_or row (suc x) 0 == background) (get_or row (suc x - 1) 0 == get_or row (suc x) 0) (suc x == 0) (ne_eqb (suc x) 0 (λ e. absurd (omega (arith, e))))

-- At a position after the first either a run begins, or the test says that none does.
begins_or_none : (a b z : Bool) → z ≡ false → one_or_none (not a && (z || not b)) + bool_byte (a || b) ≡ 1
begins_or_none true b z e = refl
begins_or_none false true false e = refl
begins_or_none false false false e = refl
begins_or_none false b true e = absurd cc

pub none_behind : (row : List ℕ) (background y x : ℕ) → 0 < x → one_or_none (begins_run (row_shows row) background y x) + bool_byte ((get_or row x 0 == background) || (get_or row (x - 1) 0 == get_or row x 0)) ≡ 1
none_behind row background y x some = begins_or_none (get_or row x 0 == background) (get_or row (x - 1) 0 == get_or row x 0) (x == 0) (ne_eqb x 0 (λ e. absurd (omega (arith, e, some))))

-- At the first it is the background that decides.
begins_or_background : (a : Bool) → one_or_none (not a && true) + bool_byte a ≡ 1
begins_or_background true = refl
begins_or_background false = refl

pub none_first : (row : List ℕ) (background y : ℕ) → begun row background y 1 + bool_byte (get_or row 0 0 == background) ≡ 1
none_first row background y =
    ap (λ n. n + bool_byte (get_or row 0 0 == background)) (one_of (begins_run (row_shows row) background y 0) 0) ∙ begins_or_background (get_or row 0 0 == background)

pub few_bytes : (b : Bool) → bool_byte b ≤ 1
few_bytes true = omega arith
few_bytes false = omega arith

-- ---- row after row

-- How many runs the rows above y have.
abbrev pub counted : Canvas → ℕ → ℕ → ℕ
counted canvas w y = length (flat_map (runs_of_row canvas (canvas 0 0) w) (range_with_len 0 y))

pub counted_more : (canvas : Canvas) (w y : ℕ) → counted canvas w (y + 1) ≡ counted canvas w y + length (runs_of_row canvas (canvas 0 0) w y)
counted_more canvas w y =
    let f : ℕ → List Subrect = runs_of_row canvas (canvas 0 0) w in
    let z : 0 + y ≡ y = omega arith in
    ap (λ t. length (flat_map f t)) (rw z at (range_more 0 y))
    ∙ (ap length (flat_map-append f (range_with_len 0 y) (y ∷ [])) ∙ (length-append (flat_map f (range_with_len 0 y)) (flat_map f (y ∷ [])) ∙ ap (λ t. counted canvas w y + length t) (append-nil (f y))))

-- A row of a rectangle has the runs that its own values have.
pub row_counted : (values : List ℕ) (w : ℕ) (area : Rect) (y background n : ℕ) → area.x + area.w ≤ w → (area.y + area.h) * w ≤ length values → y < area.h → background ≡ part_of area (value_at w values) 0 0
    → n ≡ length (runs_of_row (row_shows (tile_row values w area y)) background (length (tile_row values w area y)) y)
    → n ≡ length (runs_of_row (part_of area (value_at w values)) (part_of area (value_at w values) 0 0) area.w y)
row_counted values w area y background n across down lt first is =
    let canvas : Canvas = part_of area (value_at w values) in
    let row : List ℕ = tile_row values w area y in
    let size : length row ≡ area.w = tile_row_len values w area y across down lt in
    is
    ∙ (ap (λ k. length (runs_of_row (row_shows row) background k y)) size
    ∙ (ap (λ b. length (runs_of_row (row_shows row) b area.w y)) first ∙ ap length (row_same (row_shows row) canvas (canvas 0 0) area.w y (λ k lk. tile_row_at values w area y k lk))))

range_split : (a n m : ℕ) → range_with_len a (n + m) ≡ range_with_len a n ++ range_with_len (a + n) m
range_split a zero m = let s : 0 + m ≡ m = omega arith in let z : a + 0 ≡ a = omega arith in rw (s, z) refl
range_split a (suc n) m =
    let s : suc n + m ≡ suc (n + m) = omega arith in
    let z : a + suc n ≡ a + 1 + n = omega arith in
    rw (s, z) (ap (λ t. a ∷ t) (range_split (a + 1) n m))

-- Those above y are no more than all.
pub counted_upto : (canvas : Canvas) (w h y : ℕ) → y ≤ h → counted canvas w y ≤ length (runs canvas w h)
counted_upto canvas w h y le =
    let f : ℕ → List Subrect = runs_of_row canvas (canvas 0 0) w in
    let e : h ≡ y + (h - y) = omega arith in
    let split : runs canvas w h ≡ flat_map f (range_with_len 0 y) ++ flat_map f (range_with_len (0 + y) (h - y)) =
    ap (λ n. flat_map f (range_with_len 0 n)) e ∙ (ap (flat_map f) (range_split 0 y (h - y)) ∙ flat_map-append f (range_with_len 0 y) (range_with_len (0 + y) (h - y))) in
    omega (arith, ap length split, length-append (flat_map f (range_with_len 0 y)) (flat_map f (range_with_len (0 + y) (h - y))))
