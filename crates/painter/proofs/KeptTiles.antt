-- The tiles of an area of whole tiles are tiles of the screen. So the forms that are kept of these are those of the
-- area's.
use Rattle.std.proofs.Common.{◌≡◌, ℕ, zero, suc, ◌+◌, ◌-◌, ◌*◌, ◌/◌, ◌%◌, ◌<◌, ◌≤◌, ◌⊎◌, inl, inr, List, length, take, drop, min, Option, None, sym, ap, ◌∙◌, arith}
use Rattle.std.specs.Prelude.{IfSome, slice_index_or}
use Rattle.std.proofs.lemmas.List.{get_or-take, get_or-drop, length-take, length-drop}
use Rattle.std.proofs.lemmas.Nat.{div-mul-add, mod-mul-add}
use Rattle.std.proofs.Math.Nat.{mul-le-mul_right, mul_comm}
use Rattle.std.proofs.Math.Path.{fun_ext}
use Rattle.raster.specs.declared.rect.Rect.{Rect}
use Rattle.raster.specs.Screen.{Canvas, IsWithin, part_of, tile_count, tile_rect, tiles_across}
use Rattle.hextile_codec.specs.declared.kept.TileForm.{TileForm}
use Rattle.hextile_codec.specs.Kept.{AreFormsOf, FormStands}
use Rattle.hextile_codec.proofs.KeptForms.{if_some}
use Rattle.painter.specs.WholeTiles.{HasWholeTiles}

-- ---- one tile

-- From the place `at` on, at a multiple of 16, tile `k` of a part has the length of tile `i + k` of the whole.
same_length : (whole at part i k : ℕ) → at ≡ i * 16 → at + part ≤ whole → k < (part + 15) / 16 → ((at + part) % 16 ≡ 0) ⊎ (at + part ≡ whole)
    → min 16 (whole - (i + k) * 16) ≡ min 16 (part - k * 16)
same_length whole at part i k from inside lt (inl ends) = omega arith
same_length whole at part i k from inside lt (inr ends) = omega arith

same_part : (colours : Canvas) (area outer inner : Rect) → outer.x ≡ area.x + inner.x → outer.y ≡ area.y + inner.y → part_of outer colours ≡ part_of inner (part_of area colours)
same_part colours area outer inner across down =
    fun_ext (λ x. fun_ext (λ y.
    let a : outer.x + x ≡ area.x + (inner.x + x) = omega arith in
    let b : outer.y + y ≡ area.y + (inner.y + y) = omega arith in
    ap (λ i. colours i (outer.y + y)) a ∙ ap (colours (area.x + (inner.x + x))) b))

stands_too : (form : TileForm) (w v h g : ℕ) (shown canvas : Canvas) → w ≡ v → h ≡ g → shown ≡ canvas → FormStands form w h shown → FormStands form v g canvas
stands_too form w v h g shown canvas wide high same stands = rw (← wide, ← high, ← same) stands

some_high : (n k h : ℕ) → k < n * tiles_across h → 0 < h
some_high n k zero lt = absurd (omega arith)
some_high n k (suc h) lt = omega arith

-- ---- all of them

module _ (w h : ℕ) (area : Rect) (colours : Canvas) (forms : List (Option TileForm)) (first n : ℕ) (within : IsWithin area w h) (whole : HasWholeTiles area w h) (are : AreFormsOf w h colours forms) (first_is : first ≡ area.y / 16 * tiles_across w + area.x / 16) (count : n ≡ tiles_across area.w) where
  -- Tile k of the area's first row of tiles is tile `first + k` of the screen.
  module _ (k : ℕ) (lt : k < n) (inside : k < tile_count area.w area.h) where
    high : 0 < area.h
    high = some_high (tiles_across area.w) k area.h inside

    on_screen : area.x / 16 + k < tiles_across w
    on_screen = omega (arith, lt, count, within.across, whole.left)

    place : area.y / 16 * tiles_across w + (area.x / 16 + k) ≡ first + k
    place = omega (arith, first_is)

    column : (first + k) % tiles_across w ≡ area.x / 16 + k
    column = ap (λ t. t % tiles_across w) (sym place) ∙ mod-mul-add (area.y / 16) (tiles_across w) (area.x / 16 + k) on_screen

    row : (first + k) / tiles_across w ≡ area.y / 16
    row = ap (λ t. t / tiles_across w) (sym place) ∙ div-mul-add (area.y / 16) (tiles_across w) (area.x / 16 + k) on_screen

    own_column : k % tiles_across area.w ≡ k
    own_column = let z : 0 * tiles_across area.w + k ≡ k = omega arith in ap (λ t. t % tiles_across area.w) (sym z) ∙ mod-mul-add 0 (tiles_across area.w) k (omega (arith, lt, count))

    own_row : k / tiles_across area.w ≡ 0
    own_row = let z : 0 * tiles_across area.w + k ≡ k = omega arith in ap (λ t. t / tiles_across area.w) (sym z) ∙ div-mul-add 0 (tiles_across area.w) k (omega (arith, lt, count))

    there : first + k < tile_count w h
    there =
        let below : area.y / 16 + 1 ≤ tiles_across h = omega (arith, within.down, whole.top, high) in
        let rows : (area.y / 16 + 1) * tiles_across w ≤ tiles_across h * tiles_across w = mul-le-mul_right (tiles_across w) below in
        omega (arith, rows, on_screen, first_is, mul_comm (tiles_across h) (tiles_across w))

    abbrev outer : Rect
    outer = tile_rect w h (first + k)

    abbrev inner : Rect
    inner = tile_rect area.w area.h k

    same_width : outer.w ≡ inner.w
    same_width =
        ap (λ t. min 16 (w - t * 16)) column
        ∙ (same_length w area.x area.w (area.x / 16) k (omega (arith, whole.left)) within.across (omega (arith, lt, count)) whole.right ∙ ap (λ t. min 16 (area.w - t * 16)) (sym own_column))

    same_height : outer.h ≡ inner.h
    same_height =
        let z : area.y / 16 ≡ area.y / 16 + 0 = omega arith in
        ap (λ t. min 16 (h - t * 16)) (row ∙ z)
        ∙ (same_length h area.y area.h (area.y / 16) 0 (omega (arith, whole.top)) within.down (omega (arith, high)) whole.bottom ∙ ap (λ t. min 16 (area.h - t * 16)) (sym own_row))

    same_colours : part_of outer colours ≡ part_of inner (part_of area colours)
    same_colours = same_part colours area outer inner (omega (arith, column, own_column, whole.left)) (omega (arith, row, own_row, whole.top))

    tile_stands : first + k < length forms → IfSome (slice_index_or forms (first + k) None) (λ form. FormStands form inner.w inner.h (part_of inner (part_of area colours)))
    tile_stands known =
        if_some _ _ (slice_index_or forms (first + k) None)
        (λ form stands. stands_too form outer.w inner.w outer.h inner.h (part_of outer colours) (part_of inner (part_of area colours)) same_width same_height same_colours stands) (are (first + k) known there)

  pub forms_of_area : AreFormsOf area.w area.h (part_of area colours) (take n (drop first forms))
  forms_of_area = λ k known inside.
      let len : length (take n (drop first forms)) ≡ min n (length (drop first forms)) = length-take n (drop first forms) in
      let behind : length (drop first forms) ≡ length forms - first = length-drop first forms in
      let lt : k < n = omega (arith, len, known) in
      let is : slice_index_or (take n (drop first forms)) k None ≡ slice_index_or forms (first + k) None = get_or-take n (drop first forms) k None lt ∙ get_or-drop first forms k None in
      rw is (tile_stands k lt inside (omega (arith, len, behind, known)))
