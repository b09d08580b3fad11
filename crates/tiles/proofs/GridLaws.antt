-- The stamps of tiles, by the updates that touched them, and what is due by them. A board keeps stamps in place of its
-- updates.
use Rattle.std.proofs.Common.{◌≡◌, ℕ, ◌+◌, ◌*◌, ◌/◌, ◌%◌, ◌<◌, ◌≤◌, Bool, true, false, List, [], ◌∷◌, ◌++◌, length, Option, Some, None, refl, ap, sym, ◌∙◌, arith, inl, inr, ◌⊎◌}
use Rattle.std.specs.Prelude.{◌||◌, if◌then◌else◌, max, slice_index}
use Rattle.std.proofs.lemmas.Bool.{cases_lt}
use Rattle.std.proofs.lemmas.Bool.Decides.{nat_tests}
use Rattle.std.proofs.lemmas.Nat.{div-add-mod'}
use Rattle.raster.specs.declared.rect.Rect.{Rect}
use Rattle.raster.specs.Screen.{Map, fill, holds, tile_count, tile_rect, tiles_across}
use Rattle.raster.specs.Update.{Update}
use Rattle.raster.proofs.Rows.{IsFilled}
use Rattle.tiles.specs.Grid.{Stamps, GridStands, IsTouched, due_at, is_due_at, stamp_at}
use Rattle.tiles.specs.Have.{SentTiles, sent_at}
use Rattle.tiles.specs.Touched.{is_due_since, last_touch, last_touch_from, touches}
use Rattle.tiles.proofs.Ranges.{IsTile, tile_is}
use Rattle.tiles.proofs.Untouched.{due_where_touched}

-- ---- a rectangle of tiles is stamped

pub touched_by_rect : (w h : ℕ) (tiles : Rect) (passes : ℕ → Bool) (n : ℕ) (old new : List ℕ) → 0 < w
    → IsFilled (tiles_across w) (tiles_across h) tiles n (λ i j. slice_index old (j * tiles_across w + i)) (slice_index new)
    → ((t : ℕ) → t < tile_count w h → holds tiles (t % tiles_across w) (t / tiles_across w) ≡ passes t)
    → IsTouched passes n (record { width = w; height = h; stamps = old }) (record { width = w; height = h; stamps = new })
touched_by_rect w h tiles passes n old new lw filled same =
    record {
      width = refl;
      height = refl;
      each = λ t lt.
          let is : IsTile w h t = tile_is w h t lw lt in
          let place : t / tiles_across w * tiles_across w + t % tiles_across w ≡ t = div-add-mod' t (tiles_across w) in
          ap (slice_index new) (sym place)
          ∙ (filled (t % tiles_across w) (t / tiles_across w) is.column is.row
          ∙ (ap (λ b. if b then n else slice_index old (t / tiles_across w * tiles_across w + t % tiles_across w)) (same t lt)
          ∙ ap (λ k. if passes t then n else slice_index old k) place));
    }

chosen_le : (b : Bool) (n k m : ℕ) → k ≤ m → (if b then n else k) ≤ max m n
chosen_le true n k m le = omega arith
chosen_le false n k m le = omega (arith, le)

beside_rows : (r : Rect) (n : ℕ) (under : Map ℕ) (x y : ℕ) → (y < r.y) ⊎ (r.y + r.h ≤ y) → fill r n under x y ≡ under x y
beside_rows r n under x y out = grind (arith, nat_tests)

-- Each row's number is still at least each of its stamps.
pub still_greatest : (w h : ℕ) (tiles : Rect) (n : ℕ) (old new rows raised : List ℕ)
    → IsFilled w h tiles n (λ i j. slice_index old (j * w + i)) (slice_index new)
    → ((k : ℕ) → tiles.y ≤ k → k < tiles.y + tiles.h → slice_index raised k ≡ max (slice_index rows k) n)
    → ((k : ℕ) → k < tiles.y → slice_index raised k ≡ slice_index rows k)
    → ((k : ℕ) → tiles.y + tiles.h ≤ k → slice_index raised k ≡ slice_index rows k)
    → ((x y : ℕ) → x < w → y < h → slice_index old (y * w + x) ≤ slice_index rows y)
    → (x y : ℕ) → x < w → y < h → slice_index new (y * w + x) ≤ slice_index raised y
still_greatest w h tiles n old new rows raised filled within above below bound x y lx ly =
    let is : slice_index new (y * w + x) ≡ fill tiles n (λ i j. slice_index old (j * w + i)) x y = filled x y lx ly in
    let was : slice_index old (y * w + x) ≤ slice_index rows y = bound x y lx ly in
    elim (cases_lt y tiles.y) [
      | inl over ↦ omega (arith, is, was, beside_rows tiles n (λ i j. slice_index old (j * w + i)) x y (inl over), above y over)
      | inr from ↦ elim (cases_lt y (tiles.y + tiles.h)) [
        | inl inside ↦ omega (arith, is, within y from inside, chosen_le (holds tiles x y) n (slice_index old (y * w + x)) (slice_index rows y) was)
        | inr under ↦ omega (arith, is, was, beside_rows tiles n (λ i j. slice_index old (j * w + i)) x y (inr under), below y under)
      ]
    ]

-- ---- one update more

last_touch_from-push : (r : Rect) (last next : ℕ) (us : List Update) (u : Update) → last_touch_from r last next (us ++ u ∷ []) ≡ (if touches r u then next + length us else last_touch_from r last next us)
last_touch_from-push r last next [] u = let e : next ≡ next + 0 = omega arith in ap (λ k. if touches r u then k else last) e
last_touch_from-push r last next (v ∷ us) u =
    let e : next + 1 + length us ≡ next + length (v ∷ us) = omega arith in
    last_touch_from-push r (if touches r v then next else last) (next + 1) us u ∙ ap (λ k. if touches r u then k else last_touch_from r (if touches r v then next else last) (next + 1) us) e

-- Where the next update touches the tiles that were stamped, at its number, a grid stands for it too.
pub stands_next : (grid new : Stamps) (us : List Update) (u : Update) (n : ℕ) → n ≡ length us + 1 → GridStands grid us → IsTouched (λ t. touches (tile_rect grid.width grid.height t) u) n grid new
    → GridStands new (us ++ u ∷ [])
stands_next grid new us u n is stands touched =
    record { each = λ t lt. by_size (λ w h. (t : ℕ) → t < tile_count w h → stamp_at new t ≡ last_touch (tile_rect w h t) (us ++ u ∷ [])) (λ k less. at_tile k less) t lt }
  where
    count : n ≡ 1 + length us
    count = omega (arith, is)

    at_tile : (t : ℕ) → t < tile_count grid.width grid.height → stamp_at new t ≡ last_touch (tile_rect grid.width grid.height t) (us ++ u ∷ [])
    at_tile t lt =
        touched.each t lt
        ∙ (ap (λ k. if touches (tile_rect grid.width grid.height t) u then n else k) (stands.each t lt)
        ∙ (ap (λ k. if touches (tile_rect grid.width grid.height t) u then k else last_touch (tile_rect grid.width grid.height t) us) count
        ∙ sym (last_touch_from-push (tile_rect grid.width grid.height t) 0 1 us u)))

    by_size : (P : ℕ → ℕ → Type 0) → P grid.width grid.height → P new.width new.height
    by_size P p = rw (touched.width, touched.height) p

chosen_both : (a b : Bool) (n k : ℕ) → (if b then n else (if a then n else k)) ≡ (if a || b then n else k)
chosen_both true true n k = refl
chosen_both true false n k = refl
chosen_both false b n k = refl

-- Touched by one rectangle after the other.
pub touched_both : (p q : ℕ → Bool) (n : ℕ) (old mid new : Stamps) → IsTouched p n old mid → IsTouched q n mid new → IsTouched (λ t. p t || q t) n old new
touched_both p q n old mid new first second =
    record {
      width = second.width ∙ first.width;
      height = second.height ∙ first.height;
      each = λ t lt. let there : t < tile_count mid.width mid.height = rw (first.width, first.height) lt in
          second.each t there ∙ (ap (λ k. if q t then n else k) (first.each t lt) ∙ chosen_both (p t) (q t) n (stamp_at old t));
    }

-- Touched by none.
pub touched_none : (n : ℕ) (grid : Stamps) → IsTouched (λ t. false) n grid grid
touched_none n grid = record { width = refl; height = refl; each = λ t lt. refl }

-- The same test says the same.
pub touched_as : (p q : ℕ → Bool) (n : ℕ) (old new : Stamps) → ((t : ℕ) → t < tile_count old.width old.height → p t ≡ q t) → IsTouched p n old new → IsTouched q n old new
touched_as p q n old new same touched =
    record {
      width = touched.width;
      height = touched.height;
      each = λ t lt. touched.each t lt ∙ ap (λ b. if b then n else stamp_at old t) (same t lt);
    }

-- ---- what is due

due_by_stamp : (r : Rect) (sent : Option ℕ) (us : List Update) → is_due_at sent (last_touch r us) ≡ is_due_since r sent us
due_by_stamp r None us = refl
due_by_stamp r (Some n) us = sym (due_where_touched r us n)

pub due_stands : (grid : Stamps) (have : SentTiles) (us : List Update) (t : ℕ) → GridStands grid us → t < tile_count grid.width grid.height → due_at grid have t ≡ is_due_since (tile_rect grid.width grid.height t) (sent_at have t) us
due_stands grid have us t stands lt = ap (is_due_at (sent_at have t)) (stands.each t lt) ∙ due_by_stamp (tile_rect grid.width grid.height t) (sent_at have t) us
