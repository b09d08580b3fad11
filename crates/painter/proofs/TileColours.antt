-- The tiles of a screen are those of a patch, and have together no more colours than it has positions. `Painter::patch`
-- takes that much room, and fills it.
use Rattle.std.proofs.Common.{◌≡◌, ℕ, zero, suc, ◌+◌, ◌*◌, ◌-◌, ◌/◌, ◌%◌, ◌<◌, ◌≤◌, Bool, true, false, List, [], ◌∷◌, ◌++◌, length, length-append, take, drop, map, All, get_or, inl, inr, refl, ap, sym, subst, ◌∙◌, arith, zero-add}
use Rattle.std.specs.Prelude.{filter, if◌then◌else◌, min}
use Rattle.std.specs.List.{flat_map, range_with_len, sum_by}
use Rattle.std.specs.List.Sorted.{IsStrictlyIncreasing}
use Rattle.std.proofs.Math.Nat.{add-mul, mod-lt, mul-add, mul-le-mul}
use Rattle.std.proofs.Math.Seq.{drop-append_seam, take-append_seam}
use Rattle.std.proofs.lemmas.Bool.{cases_lt}
use Rattle.std.proofs.lemmas.List.Elements.{All-filter}
use Rattle.std.proofs.lemmas.List.FromFn.{get_or-range_with_len, length-range_with_len, sum_by-map-range_with_len_more}
use Rattle.std.proofs.lemmas.List.Kept.{IsStrictlyIncreasing-filter}
use Rattle.std.proofs.lemmas.List.Sums.{sum_by-append, sum_by-cons}
use Rattle.std.proofs.lemmas.Nat.{div-add-mod', div-mul-add, mod-mul-add}
use Rattle.raster.specs.declared.rect.Rect.{Rect}
use Rattle.raster.specs.Screen.{Canvas, part_of, tile_count, tile_rect, tiles_across}
use Rattle.raster.specs.Update.{Paint, Put}
use Rattle.raster.proofs.Places.{length_values}
use Rattle.copy_log.specs.Notes.{paint_of}
use Rattle.copy_log.specs.declared.copy_rect.CopyRect.{CopyRect}
use Rattle.painter.specs.Painter.{Painting, colour_count, colours_in, colours_of, is_touched, tile_put, tile_puts, touched_below, worked}
use Rattle.painter.specs.Patch.{AreTiles, AreTouchedTiles, tile_area, tile_paints}
use Rattle.raster.specs.declared.tile.TheConstants.{TILE_SIDE}

-- ---- they are the tiles of a patch

-- Their paints, where their colours stand one tile after the other.
pub tiles_are_puts : (w h : ℕ) (c : Canvas) (ts : List ℕ) → tile_paints w h ts (flat_map (λ t. colours_in c (tile_rect w h t)) ts) ≡ map (tile_put w h c) ts
tiles_are_puts w h c [] = refl
tiles_are_puts w h c (t ∷ ts) =
    let r : Rect = tile_rect w h t in
    let others : List ℕ = flat_map (λ k. colours_in c (tile_rect w h k)) ts in
    let count : length (colours_in c r) ≡ tile_area w h t = length_values r.w r.h (part_of r c) in
    let front : take (tile_area w h t) (colours_in c r ++ others) ≡ colours_in c r = ap (λ n. take n (colours_in c r ++ others)) (sym count) ∙ take-append_seam (colours_in c r) others in
    let rest : drop (tile_area w h t) (colours_in c r ++ others) ≡ others = ap (λ n. drop n (colours_in c r ++ others)) (sym count) ∙ drop-append_seam (colours_in c r) others in
    ap (λ cs. Put r cs ∷ tile_paints w h ts (drop (tile_area w h t) (colours_in c r ++ others))) front ∙ ap (λ (ps : List Paint). Put r (colours_in c r) ∷ ps) (ap (tile_paints w h ts) rest ∙ tiles_are_puts w h c ts)

-- There is a colour for each position.
pub colours_count : (w h : ℕ) (c : Canvas) (ts : List ℕ) → length (flat_map (λ t. colours_in c (tile_rect w h t)) ts) ≡ sum_by (tile_area w h) ts
colours_count w h c [] = refl
colours_count w h c (t ∷ ts) =
    let r : Rect = tile_rect w h t in
    length-append (colours_in c r) (flat_map (λ k. colours_in c (tile_rect w h k)) ts)
    ∙ (ap (λ n. n + length (flat_map (λ k. colours_in c (tile_rect w h k)) ts)) (length_values r.w r.h (part_of r c))
    ∙ (ap (λ n. tile_area w h t + n) (colours_count w h c ts) ∙ sym (sum_by-cons (tile_area w h) t ts)))

-- Those that were touched are tiles of the screen.
pub touched_there : (screen : Painting) (n : ℕ) → All (λ t. t < n) (touched_below screen n)
touched_there screen n = All-filter (is_touched screen) (λ t. t < n) (range_with_len 0 n) each
  where
    each : All (λ t. t < n) (range_with_len 0 n)
    each k d lt =
        let less : k < n = rw (length-range_with_len 0 n) at lt in
        let is : get_or (range_with_len 0 n) k d ≡ k = get_or-range_with_len 0 n k d less ∙ zero-add k in
        omega (arith, is, less)

-- What was touched, with its colours, is a patch of these tiles as they look.
pub are_tiles : (screen : Painting) (ts colours : List ℕ) → ts ≡ touched_below screen (tile_count screen.width screen.height)
    → colours ≡ flat_map (λ t. colours_in (worked screen) (tile_rect screen.width screen.height t)) (touched_below screen (tile_count screen.width screen.height)) → AreTiles screen.width screen.height ts colours
are_tiles screen ts colours is_ts is_colours =
    let all : List ℕ = touched_below screen (tile_count screen.width screen.height) in
    record {
      there = subst (λ (ks : List ℕ). All (λ t. t < tile_count screen.width screen.height) ks) (sym is_ts) (touched_there screen (tile_count screen.width screen.height));
      count = ap (λ (cs : List ℕ). length cs) is_colours ∙ (colours_count screen.width screen.height (worked screen) all ∙ ap (sum_by (tile_area screen.width screen.height)) (sym is_ts));
    }

pub patch_paints : (screen : Painting) (ts colours : List ℕ) → ts ≡ touched_below screen (tile_count screen.width screen.height)
    → colours ≡ flat_map (λ t. colours_in (worked screen) (tile_rect screen.width screen.height t)) (touched_below screen (tile_count screen.width screen.height))
    → tile_paints screen.width screen.height ts colours ≡ tile_puts screen.width screen.height (worked screen) (is_touched screen)
patch_paints screen ts colours is_ts is_colours =
    let all : List ℕ = touched_below screen (tile_count screen.width screen.height) in
    ap (λ (ks : List ℕ). tile_paints screen.width screen.height ks colours) is_ts ∙ (ap (tile_paints screen.width screen.height all) is_colours ∙ tiles_are_puts screen.width screen.height (worked screen) all)

-- A tile has at most 16 by 16 positions.
pub area_small : (w h t : ℕ) → tile_area w h t ≤ 256
area_small w h t =
    let wide : min TILE_SIDE (w - t % tiles_across w * TILE_SIDE) ≤ TILE_SIDE = omega arith in
    let high : min TILE_SIDE (h - t / tiles_across w * TILE_SIDE) ≤ TILE_SIDE = omega arith in
    mul-le-mul wide high

-- ---- their colours

if_le : (f : Paint → ℕ) (p : ℕ → Paint) (b : Bool) (t : ℕ) (ts us : List ℕ) → sum_by f (map p ts) ≤ sum_by f (map p us) → sum_by f (map p (if b then t ∷ ts else ts)) ≤ sum_by f (map p (t ∷ us))
if_le f p true t ts us le = omega (arith, le, sum_by-cons f (p t) (map p ts), sum_by-cons f (p t) (map p us))
if_le f p false t ts us le = omega (arith, le, sum_by-cons f (p t) (map p us))

some_le_all : (f : Paint → ℕ) (p : ℕ → Paint) (passes : ℕ → Bool) (ts : List ℕ) → sum_by f (map p (filter passes ts)) ≤ sum_by f (map p ts)
some_le_all f p passes [] = omega arith
some_le_all f p passes (t ∷ ts) = if_le f p (passes t) t (filter passes ts) ts (some_le_all f p passes ts)

-- How many positions lie in the rows of tiles above a row, and in that row left of a column.
abbrev before : ℕ → ℕ → ℕ → ℕ → ℕ
before w h row column = w * min h (row * TILE_SIDE) + min w (column * TILE_SIDE) * min TILE_SIDE (h - row * TILE_SIDE)

-- One column on.
next_column : (w h row column : ℕ) → before w h row (column + 1) ≡ before w h row column + min TILE_SIDE (w - column * TILE_SIDE) * min TILE_SIDE (h - row * TILE_SIDE)
next_column w h row column =
    let high : ℕ = min TILE_SIDE (h - row * TILE_SIDE) in
    let wider : min w ((column + 1) * TILE_SIDE) ≡ min w (column * TILE_SIDE) + min TILE_SIDE (w - column * TILE_SIDE) = omega arith in
    let more : min w ((column + 1) * TILE_SIDE) * high ≡ min w (column * TILE_SIDE) * high + min TILE_SIDE (w - column * TILE_SIDE) * high = ap (λ k. k * high) wider ∙ add-mul (min w (column * TILE_SIDE)) (min TILE_SIDE (w - column * TILE_SIDE)) high in
    omega (arith, more)

-- One row on.
next_row : (w h row across : ℕ) → w ≤ across * TILE_SIDE → before w h (row + 1) 0 ≡ before w h row across
next_row w h row across full =
    let high : ℕ = min TILE_SIDE (h - row * TILE_SIDE) in
    let all : min w (across * TILE_SIDE) ≡ w = omega (arith, full) in
    let none : min w (0 * TILE_SIDE) ≡ 0 = omega arith in
    let lower : min h ((row + 1) * TILE_SIDE) ≡ min h (row * TILE_SIDE) + high = omega arith in
    let more : w * min h ((row + 1) * TILE_SIDE) ≡ w * min h (row * TILE_SIDE) + w * high = ap (λ k. w * k) lower ∙ mul-add w (min h (row * TILE_SIDE)) high in
    let nothing : min w (0 * TILE_SIDE) * min TILE_SIDE (h - (row + 1) * TILE_SIDE) ≡ 0 = ap (λ k. k * min TILE_SIDE (h - (row + 1) * TILE_SIDE)) none ∙ zero_times (min TILE_SIDE (h - (row + 1) * TILE_SIDE)) in
    let row_of : min w (across * TILE_SIDE) * high ≡ w * high = ap (λ k. k * high) all in
    omega (arith, more, nothing, row_of)
  where
    zero_times : (k : ℕ) → 0 * k ≡ 0
    zero_times k = omega arith

-- And of a tile's number.
abbrev before_tile : ℕ → ℕ → ℕ → ℕ
before_tile w h t = before w h (t / tiles_across w) (t % tiles_across w)

next_tile : (w h t : ℕ) → 0 < w → before_tile w h (t + 1) ≡ before_tile w h t + min TILE_SIDE (w - t % tiles_across w * TILE_SIDE) * min TILE_SIDE (h - t / tiles_across w * TILE_SIDE)
next_tile w h t lw =
    let across : ℕ = tiles_across w in
    let row : ℕ = t / across in
    let column : ℕ = t % across in
    let some : 0 < across = omega arith in
    let place : row * across + column ≡ t = div-add-mod' t across in
    let full : w ≤ across * TILE_SIDE = omega arith in
    elim (cases_lt (column + 1) across) [
      | inl inside ↦
          let next : t + 1 ≡ row * across + (column + 1) = omega (arith, place) in
          ap (before_tile w h) next
          ∙ (ap (λ k. before w h k ((row * across + (column + 1)) % across)) (div-mul-add row across (column + 1) inside)
          ∙ (ap (before w h row) (mod-mul-add row across (column + 1) inside) ∙ next_column w h row column))
      | inr last ↦
          let width : column + 1 ≡ across = omega (arith, last, mod-lt t some) in
          let times : (row + 1) * across ≡ row * across + across = add-mul row 1 across ∙ ap (λ k. row * across + k) (one_times across) in
          let next : t + 1 ≡ (row + 1) * across + 0 = omega (arith, place, width, times) in
          ap (before_tile w h) next
          ∙ (ap (λ k. before w h k (((row + 1) * across + 0) % across)) (div-mul-add (row + 1) across 0 some)
          ∙ (ap (before w h (row + 1)) (mod-mul-add (row + 1) across 0 some)
          ∙ (next_row w h row across full ∙ (ap (before w h row) (sym width) ∙ next_column w h row column))))
    ]
  where
    one_times : (k : ℕ) → 1 * k ≡ k
    one_times k = omega arith

count_is : (w h : ℕ) (c : Canvas) (t : ℕ) → colour_count (tile_put w h c t) ≡ min TILE_SIDE (w - t % tiles_across w * TILE_SIDE) * min TILE_SIDE (h - t / tiles_across w * TILE_SIDE)
count_is w h c t = let r : Rect = tile_rect w h t in length_values r.w r.h (part_of r c)

sum_before : (w h : ℕ) (c : Canvas) (n : ℕ) → 0 < w → sum_by colour_count (map (tile_put w h c) (range_with_len 0 n)) ≡ before_tile w h n
sum_before w h c zero lw =
    let some : 0 < tiles_across w = omega arith in
    let first : 0 ≡ 0 * tiles_across w + 0 = omega arith in
    sym (ap (before_tile w h) first
    ∙ (ap (λ k. before w h k ((0 * tiles_across w + 0) % tiles_across w)) (div-mul-add 0 (tiles_across w) 0 some) ∙ (ap (before w h 0) (mod-mul-add 0 (tiles_across w) 0 some) ∙ none)))
  where
    nothing : (a b : ℕ) → a * 0 + 0 * b ≡ 0
    nothing a b = omega arith

    none : before w h 0 0 ≡ 0
    none =
        let high : ℕ = min TILE_SIDE (h - 0 * TILE_SIDE) in
        let above : min h (0 * TILE_SIDE) ≡ 0 = omega arith in
        let left : min w (0 * TILE_SIDE) ≡ 0 = omega arith in
        ap (λ k. w * k + min w (0 * TILE_SIDE) * high) above ∙ (ap (λ k. w * 0 + k * high) left ∙ nothing w high)
sum_before w h c (suc n) lw =
    let next : suc n ≡ n + 1 = omega arith in
    ap (λ k. sum_by colour_count (map (tile_put w h c) (range_with_len 0 k))) next
    ∙ (sum_by-map-range_with_len_more colour_count (tile_put w h c) 0 n n (zero-add n)
    ∙ (ap (λ k. k + colour_count (tile_put w h c n)) (sum_before w h c n lw)
    ∙ (ap (λ k. before_tile w h n + k) (count_is w h c n) ∙ (sym (next_tile w h n lw) ∙ ap (before_tile w h) (sym next)))))

-- Tiles of a screen have at most as many colours as it has positions.
pub puts_few : (w h : ℕ) (c : Canvas) (passes : ℕ → Bool) → 0 < w → colours_of (tile_puts w h c passes) ≤ w * h
puts_few w h c passes lw =
    let across : ℕ = tiles_across w in
    let down : ℕ = tiles_across h in
    let some : 0 < across = omega arith in
    let n : ℕ = tile_count w h in
    let place : n ≡ down * across + 0 = omega arith in
    let last : before_tile w h n ≡ before w h down 0 =
    ap (before_tile w h) place ∙ (ap (λ k. before w h k ((down * across + 0) % across)) (div-mul-add down across 0 some) ∙ ap (before w h down) (mod-mul-add down across 0 some)) in
    let all : min h (down * TILE_SIDE) ≡ h = omega arith in
    let none : min w (0 * TILE_SIDE) ≡ 0 = omega arith in
    let total : before w h down 0 ≡ w * h + 0 * min TILE_SIDE (h - down * TILE_SIDE) = ap (λ k. w * k + min w (0 * TILE_SIDE) * min TILE_SIDE (h - down * TILE_SIDE)) all ∙ ap (λ k. w * h + k * min TILE_SIDE (h - down * TILE_SIDE)) none in
    omega (arith, some_le_all colour_count (tile_put w h c) passes (range_with_len 0 n), sum_before w h c n lw, last, total)

copies_colours : (cs : List CopyRect) → colours_of (map paint_of cs) ≡ 0
copies_colours [] = refl
copies_colours (c ∷ cs) = sum_by-cons colour_count (paint_of c) (map paint_of cs) ∙ (zero-add (colours_of (map paint_of cs)) ∙ copies_colours cs)

-- Copies in front of them have none.
pub patch_few : (w h : ℕ) (c : Canvas) (passes : ℕ → Bool) (cs : List CopyRect) → 0 < w → colours_of (map paint_of cs ++ tile_puts w h c passes) ≤ w * h
patch_few w h c passes cs lw =
    omega (arith, sum_by-append colour_count (map paint_of cs) (tile_puts w h c passes), copies_colours cs, puts_few w h c passes lw)

-- ---- all of a patch

-- Numbers from 0 on rise.
rising_range : (n : ℕ) → IsStrictlyIncreasing (range_with_len 0 n)
rising_range n k lt =
    let less : k + 1 < n = rw (length-range_with_len 0 n) at lt in
    let one : get_or (range_with_len 0 n) k 0 ≡ k = get_or-range_with_len 0 n k 0 (omega (arith, less)) ∙ zero-add k in
    let next : get_or (range_with_len 0 n) (k + 1) 0 ≡ k + 1 = get_or-range_with_len 0 n (k + 1) 0 less ∙ zero-add (k + 1) in
    omega (arith, one, next)

-- Tiles that are put have a colour for each of their positions.
puts_count : (w h : ℕ) (c : Canvas) (ts : List ℕ) → colours_of (map (tile_put w h c) ts) ≡ sum_by (tile_area w h) ts
puts_count w h c [] = refl
puts_count w h c (t ∷ ts) =
    let r : Rect = tile_rect w h t in
    sum_by-cons colour_count (tile_put w h c t) (map (tile_put w h c) ts)
    ∙ (ap (λ n. n + colours_of (map (tile_put w h c) ts)) (length_values r.w r.h (part_of r c)) ∙ (ap (λ n. tile_area w h t + n) (puts_count w h c ts) ∙ sym (sum_by-cons (tile_area w h) t ts)))

-- What was touched is each tile once, with at most a colour for each position of the screen.
pub are_touched_tiles : (screen : Painting) (ts colours : List ℕ) → 0 < screen.width → ts ≡ touched_below screen (tile_count screen.width screen.height)
    → colours ≡ flat_map (λ t. colours_in (worked screen) (tile_rect screen.width screen.height t)) (touched_below screen (tile_count screen.width screen.height))
    → AreTouchedTiles screen.width screen.height ts colours
are_touched_tiles screen ts colours wide is_ts is_colours =
    let n : ℕ = tile_count screen.width screen.height in
    let all : List ℕ = touched_below screen n in
    let area : sum_by (tile_area screen.width screen.height) ts ≡ sum_by (tile_area screen.width screen.height) all = ap (sum_by (tile_area screen.width screen.height)) is_ts in
    let tiles : AreTiles screen.width screen.height ts colours = are_tiles screen ts colours is_ts is_colours in
    record {
      tiles = tiles;
      rising = subst (λ (ks : List ℕ). IsStrictlyIncreasing ks) (sym is_ts) (IsStrictlyIncreasing-filter (is_touched screen) (range_with_len 0 n) (rising_range n));
      few =
          omega (arith, tiles.count, area, puts_count screen.width screen.height (worked screen) all, puts_few screen.width screen.height (worked screen) (is_touched screen) wide);
    }
