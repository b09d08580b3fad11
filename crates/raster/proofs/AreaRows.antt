-- The rows of a rectangle of values, and their runs. Runs are counted row by row, over the whole rectangle.
use Rattle.std.proofs.Common.{◌≡◌, ℕ, zero, suc, Bool, true, false, cond, List, [], ◌∷◌, length, map, take, drop, get_or, refl, sym, ap, ◌∙◌, ◌+◌, ◌-◌, ◌*◌, ◌<◌, ◌≤◌, arith}
use Rattle.std.specs.Prelude.{◌==◌, filter, take_while}
use Rattle.std.specs.List.{range_with_len}
use Rattle.std.proofs.lemmas.List.{length-take, length-drop, get_or-take, get_or-drop}
use Rattle.std.proofs.lemmas.List.Sums.{take_while-cons}
use Rattle.std.proofs.Math.Nat.{mul-le-mul_right}
use Rattle.raster.specs.declared.rect.Rect.{Rect}
use Rattle.raster.specs.Screen.{Canvas, value_at, part_of}
use Rattle.raster.specs.Encoding.{Subrect, begins_run, run_from, runs_of_row}

-- ---- a row of a tile in the values of all

-- Row y of a tile.
abbrev pub tile_row : List ℕ → ℕ → Rect → ℕ → List ℕ
tile_row values w tile y = take (tile.y * w + tile.x + y * w + tile.w - (tile.y * w + tile.x + y * w)) (drop (tile.y * w + tile.x + y * w) values)

pub row_inside : (w x y n ty th len : ℕ) → x + n ≤ w → (ty + th) * w ≤ len → y < th → ty * w + x + y * w + n ≤ len
row_inside w x y n ty th len across down lt =
    let p : (ty + y + 1) * w ≤ (ty + th) * w = mul-le-mul_right w (omega arith) in
    omega (arith, p)

pub tile_row_len : (values : List ℕ) (w : ℕ) (tile : Rect) (y : ℕ) → tile.x + tile.w ≤ w → (tile.y + tile.h) * w ≤ length values → y < tile.h → length (tile_row values w tile y) ≡ tile.w
tile_row_len values w tile y across down lt =
    let start : ℕ = tile.y * w + tile.x + y * w in
    let p : start + tile.w ≤ length values = row_inside w tile.x y tile.w tile.y tile.h (length values) across down lt in
    omega (arith, length-take (start + tile.w - start) (drop start values), length-drop start values, p)

pub tile_row_at : (values : List ℕ) (w : ℕ) (tile : Rect) (y k : ℕ) → k < tile.w → get_or (tile_row values w tile y) k 0 ≡ part_of tile (value_at w values) k y
tile_row_at values w tile y k lt =
    let start : ℕ = tile.y * w + tile.x + y * w in
    let place : start + k ≡ (tile.y + y) * w + (tile.x + k) = omega arith in
    get_or-take (start + tile.w - start) (drop start values) k 0 (omega arith) ∙ (get_or-drop start values k 0 ∙ ap (λ p. get_or values p 0) place)

-- The value of a tile's first pixel.
pub tile_first : (values : List ℕ) (w : ℕ) (tile : Rect) → get_or values (tile.y * w + tile.x) 0 ≡ part_of tile (value_at w values) 0 0
tile_first values w tile = let place : tile.y * w + tile.x ≡ (tile.y + 0) * w + (tile.x + 0) = omega arith in ap (λ p. get_or values p 0) place

-- ---- two canvases with the same row

take_while_same : (p q : ℕ → Bool) (a n : ℕ) → ((k : ℕ) → a ≤ k → k < a + n → p k ≡ q k) → take_while p (range_with_len a n) ≡ take_while q (range_with_len a n)
take_while_same p q a zero f = refl
take_while_same p q a (suc n) f =
    let here : p a ≡ q a = f a (omega arith) (omega arith) in
    let others = take_while_same p q (a + 1) n (λ k lo hi. f k (omega arith) (omega arith)) in
    take_while-cons p a (range_with_len (a + 1) n)
    ∙ (ap (λ t. cond (p a) (a ∷ t) []) others ∙ (ap (λ b. cond b (a ∷ take_while q (range_with_len (a + 1) n)) []) here ∙ sym (take_while-cons q a (range_with_len (a + 1) n))))

run_same : (c d : Canvas) (w y z x : ℕ) → x < w → ((k : ℕ) → k < w → c k y ≡ d k z) → length (take_while (λ k. c k y == c x y) (range_with_len x (w - x))) ≡ length (take_while (λ k. d k z == d x z) (range_with_len x (w - x)))
run_same c d w y z x lx f =
    ap length (take_while_same (λ k. c k y == c x y) (λ k. d k z == d x z) x (w - x) (λ k lo hi. let a = f k (omega arith) in let b = f x lx in rw (a, b) refl))

-- Lists made of the positions of a row that pass a test.
picked_same : (p q : ℕ → Bool) (f g : ℕ → Subrect) (a n : ℕ) → ((k : ℕ) → a ≤ k → k < a + n → p k ≡ q k) → ((k : ℕ) → a ≤ k → k < a + n → f k ≡ g k)
    → map f (filter p (range_with_len a n)) ≡ map g (filter q (range_with_len a n))
picked_same p q f g a zero e s = refl
picked_same p q f g a (suc n) e s =
    let others = picked_same p q f g (a + 1) n (λ k lo hi. e k (omega arith) (omega arith)) (λ k lo hi. s k (omega arith) (omega arith)) in
    by_head (p a) (q a) a (filter p (range_with_len (a + 1) n)) (filter q (range_with_len (a + 1) n)) (e a (omega arith) (omega arith)) (s a (omega arith) (omega arith)) others
  where
    by_head : (b c : Bool) (x : ℕ) (xs ys : List ℕ) → b ≡ c → f x ≡ g x → map f xs ≡ map g ys → map f (cond b (x ∷ xs) xs) ≡ map g (cond c (x ∷ ys) ys)
    by_head true true x xs ys e s o = rw (s, o) refl
    by_head false false x xs ys e s o = o
    by_head true false x xs ys e s o = absurd cc
    by_head false true x xs ys e s o = absurd cc

begins_same : (c d : Canvas) (background w y : ℕ) → ((k : ℕ) → k < w → c k y ≡ d k y) → (k : ℕ) → k < w → begins_run c background y k ≡ begins_run d background y k
begins_same c d background w y f k lt =
    let a = f k lt in
    let b = f (k - 1) (omega arith) in
    rw (a, b) refl

abbrev run_of : ℕ → ℕ → ℕ → ℕ → Subrect
run_of x y value len = record { value = value; area = record { x = x; y = y; w = len; h = 1 } }

by_parts : (x y u v n m : ℕ) → u ≡ v → n ≡ m → run_of x y u n ≡ run_of x y v m
by_parts x y u v n m e g = rw (e, g) refl

subrects_same : (c d : Canvas) (w y : ℕ) → ((k : ℕ) → k < w → c k y ≡ d k y) → (k : ℕ) → k < w → run_from c w y k ≡ run_from d w y k
subrects_same c d w y f k lt =
    let a = f k lt in
    let l = run_same c d w y y k lt f in
    by_parts k y (c k y) (d k y) (length (take_while (λ i. c i y == c k y) (range_with_len k (w - k)))) (length (take_while (λ i. d i y == d k y) (range_with_len k (w - k)))) a l

pub row_same : (c d : Canvas) (background w y : ℕ) → ((k : ℕ) → k < w → c k y ≡ d k y) → runs_of_row c background w y ≡ runs_of_row d background w y
row_same c d background w y f =
    picked_same (begins_run c background y) (begins_run d background y) (run_from c w y) (run_from d w y) 0 w (λ k lo hi. begins_same c d background w y f k (omega arith)) (λ k lo hi. subrects_same c d w y f k (omega arith))
