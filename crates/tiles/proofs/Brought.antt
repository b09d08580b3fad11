-- The runs of an area hold the positions of its due tiles and no others. The law `runs_bring_the_due` is made of it.
use Rattle.std.proofs.Common.{◌≡◌, ℕ, suc, zero, ◌+◌, ◌-◌, ◌*◌, ◌/◌, ◌%◌, ◌<◌, ◌≤◌, Bool, true, false, List, [], ◌∷◌, length, refl, ap, sym, ◌∙◌, arith, inl, inr, ◌⊎◌}
use Rattle.std.specs.Prelude.{min, ◌&&◌, ◌||◌, filter, take_while}
use Rattle.std.proofs.lemmas.Bool.{and_parts, and_from, or_cases}
use Rattle.std.proofs.lemmas.Nat.{div-add-mod'}
use Rattle.std.specs.List.{All, range_with_len, flat_map}
use Rattle.raster.specs.declared.rect.Rect.{Rect}
use Rattle.raster.specs.Screen.{holds, meets, common, tiles_across, tile_rect}
use Rattle.raster.proofs.Spellings.{Each, each_map, each_filter, each_flat_map, each_range}
use Rattle.raster.proofs.Runs.{front_passes}
use Rattle.raster.proofs.Places.{Has, has_holds, holds_has, has_common_left}
use Rattle.tiles.specs.Touched.{begins_run, run_from, runs_of_row, runs}
use Rattle.tiles.specs.Brings.{IsPart, some_holds, RunsBringTheDue}
use Rattle.tiles.proofs.RunLaws.{InSome, runs_cover, runs_within, runs_few}
use Rattle.raster.specs.declared.tile.TheConstants.{TILE_SIDE}

-- What holds of each is what holds at each place.
all_of_each : {A : Type 0} (P : A → Type 0) (xs : List A) → Each P xs → All P xs
all_of_each P [] h k d lt = absurd (omega arith)
all_of_each P (x ∷ xs) h zero d lt = h.0
all_of_each P (x ∷ xs) h (suc k) d lt = all_of_each P xs h.1 k d (omega arith)

-- ---- tests

in_some : (rs : List Rect) (x y : ℕ) → some_holds rs x y ≡ true → InSome rs x y
in_some [] x y e = absurd cc
in_some (r ∷ rs) x y e =
    elim (or_cases (holds r x y) (some_holds rs x y) e) [
      | inl here ↦ inl (has_holds r x y here)
      | inr there ↦ inr (in_some rs x y there)
    ]

or_by : (a b : Bool) → (a ≡ true) ⊎ (b ≡ true) → (a || b) ≡ true
or_by true b e = refl
or_by false b (inl e) = absurd cc
or_by false b (inr e) = e

some_in : (rs : List Rect) (x y : ℕ) → InSome rs x y → some_holds rs x y ≡ true
some_in [] x y i = absurd i
some_in (r ∷ rs) x y (inl p) = or_by (holds r x y) (some_holds rs x y) (inl (holds_has r x y p))
some_in (r ∷ rs) x y (inr i) = or_by (holds r x y) (some_holds rs x y) (inr (some_in rs x y i))

same_test : (a b : Bool) → (a ≡ true → b ≡ true) → (b ≡ true → a ≡ true) → a ≡ b
same_test true true f g = refl
same_test true false f g = sym (f refl)
same_test false true f g = g refl
same_test false false f g = refl

-- ---- a run holds nothing else

-- What a rectangle of the answer holds lies in the area, and in a due tile.
abbrev HoldsDue : ℕ → ℕ → Rect → (ℕ → Bool) → Rect → Type 0
HoldsDue w h area due r = (t x y : ℕ) → Has r x y → Has (tile_rect w h t) x y → (holds area x y && due t) ≡ true

some_due : (w h : ℕ) (area : Rect) (due : ℕ → Bool) (rs : List Rect) → Each (HoldsDue w h area due) rs → (t x y : ℕ) → InSome rs x y → Has (tile_rect w h t) x y → (holds area x y && due t) ≡ true
some_due w h area due [] k t x y i p = absurd i
some_due w h area due (r ∷ rs) k t x y (inl q) p = k.0 t x y q p
some_due w h area due (r ∷ rs) k t x y (inr i) p = some_due w h area due rs k.1 t x y i p

pub has_common_right : (r s : Rect) (x y : ℕ) → Has (common r s) x y → Has s x y
has_common_right r s x y p =
    record { left = omega (arith, p.left); right = omega (arith, p.left, p.right); top = omega (arith, p.top); bottom = omega (arith, p.top, p.bottom) }

-- in columns and rows of tiles
same_row : (row k y n : ℕ) → row * TILE_SIDE ≤ y → y < row * TILE_SIDE + TILE_SIDE → k * TILE_SIDE ≤ y → y < k * TILE_SIDE + min TILE_SIDE n → k ≡ row
same_row row k y n a b c d = omega arith

in_columns : (from count c x n : ℕ) → from * TILE_SIDE ≤ x → x < from * TILE_SIDE + count * TILE_SIDE → c * TILE_SIDE ≤ x → x < c * TILE_SIDE + min TILE_SIDE n → (from ≤ c) × (c < from + count)
in_columns from count c x n a b d e = (omega arith, omega arith)

run_holds_due : (w h : ℕ) (area : Rect) (due : ℕ → Bool) (row s : ℕ) → row * tiles_across w ≤ s
    → HoldsDue w h area due (common area (run_from (λ k. due k && meets area (tile_rect w h k)) (tiles_across w) row s))
run_holds_due w h area due row s from t x y p q =
    let across : ℕ = tiles_across w in
    let first : ℕ = row * across in
    let passes : ℕ → Bool = λ k. due k && meets area (tile_rect w h k) in
    let count : ℕ = length (take_while passes (range_with_len s (first + across - s))) in
    let inside : Has (run_from passes across row s) x y = has_common_right area (run_from passes across row s) x y p in
    let here : t / across ≡ row = same_row row (t / across) y (h - t / across * TILE_SIDE) inside.top inside.bottom q.top q.bottom in
    let column : (s - first ≤ t % across) × (t % across < s - first + count) = in_columns (s - first) count (t % across) x (w - t % across * TILE_SIDE) inside.left inside.right q.left q.right in
    let place : first + t % across ≡ t = ap (λ k. k * across + t % across) (sym here) ∙ div-add-mod' t across in
    let passed : passes t ≡ true = front_passes passes s (first + across - s) t (omega (arith, place, column.0)) (omega (arith, place, column.1)) in
    and_from (holds area x y) (due t) (holds_has area x y (has_common_left area (run_from passes across row s) x y p)) (and_parts (due t) (meets area (tile_rect w h t)) passed).0

runs_hold_due : (w h : ℕ) (area : Rect) (due : ℕ → Bool) → Each (HoldsDue w h area due) (runs w h area due)
runs_hold_due w h area due =
    let across : ℕ = tiles_across w in
    let passes : ℕ → Bool = λ k. due k && meets area (tile_rect w h k) in
    let fits : Rect → Type 0 = λ r. HoldsDue w h area due (common area r) in
    each_map (HoldsDue w h area due) (common area) (flat_map (runs_of_row passes across) (range_with_len 0 (tiles_across h)))
    (each_flat_map fits (runs_of_row passes across) (range_with_len 0 (tiles_across h))
    (each_range (λ row. Each fits (runs_of_row passes across row)) 0 (tiles_across h)
    (λ row _ _. each_map fits (run_from passes across row) (filter (begins_run passes (row * across)) (range_with_len (row * across) across))
    (each_filter (λ s. fits (run_from passes across row s)) (begins_run passes (row * across)) (range_with_len (row * across) across)
    (each_range (λ s. begins_run passes (row * across) s ≡ true → fits (run_from passes across row s)) (row * across) across
    (λ s from to e. run_holds_due w h area due row s from))))))

pub runs_bring_the_due : RunsBringTheDue
runs_bring_the_due w h area due lw lh on =
    record {
      exactly = λ t x y lt e.
          same_test (some_holds (runs w h area due) x y) (holds area x y && due t)
          (λ some. some_due w h area due (runs w h area due) (runs_hold_due w h area due) t x y (in_some (runs w h area due) x y some) (has_holds (tile_rect w h t) x y e))
          (λ both. (let parts = and_parts (holds area x y) (due t) both in
          some_in (runs w h area due) x y (runs_cover w h area due t x y lt parts.1 (has_holds area x y parts.0) (has_holds (tile_rect w h t) x y e))));
      parts = all_of_each (IsPart w h) (runs w h area due) (runs_within w h area due on);
      few = runs_few w h area due lw lh;
    }
