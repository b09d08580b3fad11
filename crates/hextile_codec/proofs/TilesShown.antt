-- What a canvas shows of the tiles. `Reader::feed` says it of the tiles read so far.
use Rattle.std.proofs.Common.{◌≡◌, ℕ, zero, suc, ◌+◌, ◌-◌, ◌*◌, ◌/◌, ◌%◌, ◌<◌, ◌≤◌, Bool, true, false, List, [], ◌∷◌, ◌++◌, length, Some, refl, sym, ap, subst, ◌∙◌, inl, inr, arith}
use Rattle.std.specs.Prelude.{slice_get, min}
use Rattle.std.proofs.lemmas.Bool.{cases_lt}
use Rattle.std.proofs.lemmas.Nat.{div-mul-add, mod-mul-add}
use Rattle.std.proofs.Math.Nat.{div-add-mod}
use Rattle.raster.specs.Screen.{Canvas, LooksLike, holds, part_of, tiles_across, tile_count, tile_rect, kept}
use Rattle.raster.specs.Encoding.{Tile, tile_shows, tiled}
use Rattle.raster.proofs.Places.{Has, has_holds, tile_of, tile_of_there}
use Rattle.raster.proofs.HextileSpelled.{tile_lies}
use Rattle.hextile_codec.specs.Ahead.{IsTile, Keeps}

-- A canvas shows the tiles in front of number k.
abbrev pub ShowsBefore : (keep : ℕ → ℕ) → ℕ → ℕ → ℕ → Canvas → List Tile → Type 0
ShowsBefore keep w h k canvas tiles = (x y : ℕ) → x < w → y < h → y / 16 * tiles_across w + x / 16 < k → canvas x y ≡ keep (tiled w h tiles x y)

some_wide : (w h k : ℕ) → k < tile_count w h → 0 < w
some_wide w h k lt = elim (cases_lt 0 w) [
  | inl some ↦ some
  | inr none ↦
      let zero_wide : tiles_across w ≡ 0 = omega arith in
      let nothing : tile_count w h ≡ 0 * tiles_across h = ap (λ a. a * tiles_across h) zero_wide in
      absurd (omega (arith, nothing, lt))
]

pub is_tile : (w h k : ℕ) → w ≤ 65535 → h ≤ 65535 → k < tile_count w h → IsTile (tile_rect w h k) w h
is_tile w h k wide high lt =
    let l = tile_lies w h k (some_wide w h k lt) lt in
    record {
      wide = (l.w_some, l.w_most);
      high = (l.h_some, l.h_most);
      within = record { across = l.across; down = l.down };
      small = (omega (arith, l.across), omega (arith, l.down));
    }

-- A position in tile number k is one whose tile has that number.
number_by : (across column row x y w h : ℕ) → Has (record { x = column * 16; y = row * 16; w = min 16 (w - column * 16); h = min 16 (h - row * 16) }) x y → y / 16 * across + x / 16 ≡ row * across + column
number_by across column row x y w h p =
    let a : x / 16 ≡ column = omega (arith, p.left, p.right) in
    let b : y / 16 ≡ row = omega (arith, p.top, p.bottom) in
    rw (a, b) refl

number_is : (w h k x y : ℕ) → Has (tile_rect w h k) x y → tile_of w x y ≡ k
number_is w h k x y p =
    number_by (tiles_across w) (k % tiles_across w) (k / tiles_across w) x y w h p ∙ (let e = div-add-mod k (tiles_across w) in omega (arith, e))

false_else : (b : Bool) → (b ≡ true → ⊥) → b ≡ false
false_else true f = absurd (f refl)
false_else false f = refl

-- What is drawn in tile number k leaves those in front of it.
pub before_stays : (keep : ℕ → ℕ) → (w h k : ℕ) (old new : Canvas) (tiles : List Tile) → Keeps (tile_rect w h k) w h old new → ShowsBefore keep w h k old tiles → ShowsBefore keep w h k new tiles
before_stays keep w h k old new tiles keeps before x y lx ly lt =
    keeps x y lx ly (false_else (holds (tile_rect w h k) x y) (λ e. let n = number_is w h k x y (has_holds (tile_rect w h k) x y e) in absurd (omega (arith, n, lt)))) ∙ before x y lx ly lt

slice_get_left : (xs ys : List Tile) (i : ℕ) → i < length xs → slice_get (xs ++ ys) i ≡ slice_get xs i
slice_get_left [] ys i lt = absurd (omega (arith, lt))
slice_get_left (x ∷ xs) ys zero lt = refl
slice_get_left (x ∷ xs) ys (suc i) lt = slice_get_left xs ys i (omega (arith, lt))

slice_get_last : (xs : List Tile) (x : Tile) (i : ℕ) → length xs ≡ i → slice_get (xs ++ x ∷ []) i ≡ Some x
slice_get_last [] x zero e = refl
slice_get_last [] x (suc i) e = absurd (omega (arith, e))
slice_get_last (y ∷ xs) x zero e = absurd (omega (arith, e))
slice_get_last (y ∷ xs) x (suc i) e = slice_get_last xs x i (omega (arith, e))

-- And with tile number k there is one more.
pub before_more : (keep : ℕ → ℕ) → (w h k : ℕ) (canvas : Canvas) (tiles : List Tile) (what : Tile) → length tiles ≡ k → ShowsBefore keep w h k canvas tiles
    → ((x y : ℕ) → x < (tile_rect w h k).w → y < (tile_rect w h k).h → part_of (tile_rect w h k) canvas x y ≡ keep (tile_shows (tile_rect w h k).w (Some what) x y))
    → ShowsBefore keep w h (k + 1) canvas (tiles ++ what ∷ [])
before_more keep w h k canvas tiles what count before shows x y lx ly lt =
    let t : ℕ = tile_of w x y in
    elim (cases_lt t k) [
      | inl front ↦ before x y lx ly front ∙ ap (λ o. keep (tile_shows (tile_rect w h t).w o (x % 16) (y % 16))) (sym (slice_get_left tiles (what ∷ []) t (omega (arith, count, front))))
      | inr last ↦
          let here : t ≡ k = omega (arith, last, lt) in
          let c : x / 16 < tiles_across w = omega arith in
          let column : t % tiles_across w ≡ x / 16 = mod-mul-add (y / 16) (tiles_across w) (x / 16) c in
          let row : t / tiles_across w ≡ y / 16 = div-mul-add (y / 16) (tiles_across w) (x / 16) c in
          let to_x : (tile_rect w h t).x + x % 16 ≡ x = rw column (omega arith) in
          let to_y : (tile_rect w h t).y + y % 16 ≡ y = rw row (omega arith) in
          let there = subst (λ j. (u v : ℕ) → u < (tile_rect w h j).w → v < (tile_rect w h j).h → part_of (tile_rect w h j) canvas u v ≡ keep (tile_shows (tile_rect w h j).w (Some what) u v)) (sym here) shows in
          let seen = there (x % 16) (y % 16) (rw column (omega arith)) (rw row (omega arith)) in
          let last_one = slice_get_last tiles what t (count ∙ sym here) in
          sym (ap (λ i. canvas i ((tile_rect w h t).y + y % 16)) to_x ∙ ap (λ j. canvas x j) to_y) ∙ (seen ∙ ap (λ o. keep (tile_shows (tile_rect w h t).w o (x % 16) (y % 16))) (sym last_one))
    ]

-- After the last tile it shows all of them.
pub all_shown : (keep : ℕ → ℕ) → (w h k : ℕ) (canvas : Canvas) (tiles : List Tile) → tile_count w h ≤ k → ShowsBefore keep w h k canvas tiles → LooksLike w h canvas (kept keep (tiled w h tiles))
all_shown keep w h k canvas tiles le before x y lx ly = before x y lx ly (let t = tile_of_there w h x y lx ly in omega (arith, t, le))
