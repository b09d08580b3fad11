-- What is drawn in one tile. The canvas shows it on top of the tiles before.
use Rattle.std.proofs.Common.{◌≡◌, ℕ, ◌+◌, ◌-◌, ◌*◌, ◌<◌, ◌≤◌, Bool, true, false, List, [], ◌∷◌, ◌++◌, length, get_or, refl, sym, ap, ◌∙◌, inl, inr, arith}
use Rattle.std.specs.Prelude.{◌⊎◌, if◌then◌else◌}
use Rattle.std.proofs.lemmas.Bool.{cases_lt}
use Rattle.std.proofs.lemmas.Bool.Decides.{nat_tests}
use Rattle.std.proofs.lemmas.List.{get_or_append_left, get_or-append-add}
use Rattle.std.proofs.Math.Nat.{mul-le-mul_right}
use Rattle.raster.specs.declared.rect.Rect.{Rect}
use Rattle.raster.specs.Screen.{Canvas, LooksLike, IsWithin, holds, is_within, fill, lay, part_of, value_at, kept}
use Rattle.raster.proofs.Kept.{kept_fill}
use Rattle.raster.specs.Encoding.{Subrect, Drawing, drawn, after_subrects}
use Rattle.raster.proofs.Rows.{fill_inside, lay_inside, lay_outside}
use Rattle.raster.proofs.RreLaws.{with_subrect}
use Rattle.hextile_codec.specs.Ahead.{IsTile, Keeps}

-- A rectangle at a place of a tile.
abbrev pub moved : Rect → Rect → Rect
moved area r = record { x = area.x + r.x; y = area.y + r.y; w = r.w; h = r.h }

pub lies_within : (area : Rect) (w h : ℕ) → is_within area w h ≡ true → IsWithin area w h
lies_within area w h e = record { across = grind (arith, nat_tests); down = grind (arith, nat_tests) }

pub moved_within : (area r : Rect) (w h : ℕ) → IsTile area w h → IsWithin r area.w area.h → IsWithin (moved area r) w h
moved_within area r w h t i = record { across = omega (arith, t.within.across, i.across); down = omega (arith, t.within.down, i.down) }

-- A position outside a tile lies outside what lies in it.
outside_by : (ax ay aw ah x y w h u v : ℕ) → ax ≤ x → x + w ≤ ax + aw → ay ≤ y → y + h ≤ ay + ah → holds (record { x = ax; y = ay; w = aw; h = ah }) u v ≡ false → holds (record { x = x; y = y; w = w; h = h }) u v ≡ false
outside_by ax ay aw ah x y w h u v a b c d e = grind (arith, nat_tests)

pub outside : (area r : Rect) (u v : ℕ) → IsWithin r area.w area.h → holds area u v ≡ false → holds (moved area r) u v ≡ false
outside area r u v i e = outside_by area.x area.y area.w area.h (area.x + r.x) (area.y + r.y) r.w r.h u v (omega arith) (omega (arith, i.across)) (omega arith) (omega (arith, i.down)) e

-- ---- a subrectangle

same_holds : (ax ay x y w h u v : ℕ) → holds (record { x = ax + x; y = ay + y; w = w; h = h }) (ax + u) (ay + v) ≡ holds (record { x = x; y = y; w = w; h = h }) u v
same_holds ax ay x y w h u v = grind (arith, nat_tests)

pub fill_in_tile : (area r : Rect) (value w h : ℕ) (old new : Canvas) → IsTile area w h → LooksLike w h new (fill (moved area r) value old) → LooksLike area.w area.h (part_of area new) (fill r value (part_of area old))
fill_in_tile area r value w h old new t shows x y lx ly =
    shows (area.x + x) (area.y + y) (omega (arith, t.within.across)) (omega (arith, t.within.down))
    ∙ ap (λ (b : Bool). if b then value else old (area.x + x) (area.y + y)) (same_holds area.x area.y r.x r.y r.w r.h x y)

pub fill_keeps : (area r : Rect) (value w h : ℕ) (old new : Canvas) → IsWithin r area.w area.h → LooksLike w h new (fill (moved area r) value old) → Keeps area w h old new
fill_keeps area r value w h old new i shows x y lx ly e =
    shows x y lx ly ∙ ap (λ (b : Bool). if b then value else old x y) (outside area r x y i e)

pub keeps_then : (area : Rect) (w h : ℕ) (a b c : Canvas) → Keeps area w h a b → Keeps area w h b c → Keeps area w h a c
keeps_then area w h a b c f g x y lx ly e = g x y lx ly e ∙ f x y lx ly e

-- ---- a row of pixels

pub lay_keeps : (area r : Rect) (over : Canvas) (w h : ℕ) (old new : Canvas) → IsWithin r area.w area.h → LooksLike w h new (lay (moved area r) over old) → Keeps area w h old new
lay_keeps area r over w h old new i shows x y lx ly e =
    shows x y lx ly ∙ ap (λ (b : Bool). if b then over (x - (area.x + r.x)) (y - (area.y + r.y)) else old x y) (outside area r x y i e)

-- A part of a row after the pixels that have come.
pub row_grows : (keep : ℕ → ℕ) → (area : Rect) (w h row column n : ℕ) (before more : List ℕ) (old new : Canvas) → IsTile area w h → column + n ≤ area.w → row < area.h → length before ≡ row * area.w + column → length more ≡ n
    → LooksLike w h new (lay (record { x = area.x + column; y = area.y + row; w = n; h = 1 }) (kept keep (value_at n more)) old)
    → ((x y : ℕ) → x < area.w → y < area.h → y * area.w + x < row * area.w + column → part_of area old x y ≡ keep (value_at area.w before x y))
    → (x y : ℕ) → x < area.w → y < area.h → y * area.w + x < row * area.w + column + n → part_of area new x y ≡ keep (value_at area.w (before ++ more) x y)
row_grows keep area w h row column n before more old new t across down len count shows sofar x y lx ly lt =
    let there = shows (area.x + x) (area.y + y) (omega (arith, t.within.across)) (omega (arith, t.within.down)) in
    elim (cases_lt (y * area.w + x) (row * area.w + column)) [
      | inl come ↦
          let out : (area.x + x < area.x + column) ⊎ ((area.x + column + n ≤ area.x + x) ⊎ ((area.y + y < area.y + row) ⊎ (area.y + row + 1 ≤ area.y + y))) =
          elim (cases_lt y row) [
            | inl above ↦ inr (inr (inl (omega arith)))
            | inr from ↦ let p : row * area.w ≤ y * area.w = mul-le-mul_right {m = row} {n = y} area.w from in inl (omega (arith, p))
          ] in
          there ∙ (lay_outside (area.x + column) (area.y + row) n 1 (kept keep (value_at n more)) old (area.x + x) (area.y + y) out ∙ (sofar x y lx ly come ∙ ap keep (sym (get_or_append_left before more 0 (y * area.w + x) (omega arith)))))
      | inr new_one ↦
          let upto : y < row + 1 = elim (cases_lt y (row + 1)) [
            | inl up ↦ up
            | inr beyond ↦ let p : (row + 1) * area.w ≤ y * area.w = mul-le-mul_right {m = row + 1} {n = y} area.w beyond in absurd (omega (arith, p))
          ] in
          let from : row ≤ y = elim (cases_lt y row) [
            | inl above ↦ let p : (y + 1) * area.w ≤ row * area.w = mul-le-mul_right {m = y + 1} {n = row} area.w (omega arith) in absurd (omega (arith, p))
            | inr on ↦ on
          ] in
          let here : y ≡ row = omega arith in
          let at_row : y * area.w ≡ row * area.w = ap (λ k. k * area.w) here in
          let index : y * area.w + x ≡ length before + (x - column) = omega (arith, at_row) in
          let inside = lay_inside (area.x + column) (area.y + row) n 1 (kept keep (value_at n more)) old (area.x + x) (area.y + y) (omega (arith, at_row)) (omega (arith, at_row)) (omega arith) (omega arith) in
          let dx : (area.y + y - (area.y + row)) * n + (area.x + x - (area.x + column)) ≡ x - column = let z : area.y + y - (area.y + row) ≡ 0 = omega arith in rw z (omega arith) in
          there ∙ (inside ∙ ap keep (ap (λ k. get_or more k 0) dx ∙ sym (ap (λ k. get_or (before ++ more) k 0) index ∙ get_or-append-add before more (x - column) 0)))
    ]

-- ---- subrectangles one by one

after_one : (canvas : Canvas) (ss : List Subrect) (s : Subrect) (x y : ℕ) → after_subrects canvas (ss ++ s ∷ []) x y ≡ fill s.area s.value (after_subrects canvas ss) x y
after_one canvas [] s x y = refl
after_one canvas (t ∷ ss) s x y = after_one (fill t.area t.value canvas) ss s x y

pub subrect_drawn : (keep : ℕ → ℕ) → (w h : ℕ) (sofar : Drawing) (s : Subrect) (old new : Canvas) → LooksLike w h old (kept keep (drawn sofar)) → LooksLike w h new (fill s.area (keep s.value) old) → LooksLike w h new (kept keep (drawn (with_subrect sofar s)))
subrect_drawn keep w h sofar s old new before shows x y lx ly =
    shows x y lx ly
    ∙ (ap (λ u. fill s.area (keep s.value) (λ _ _. u) x y) (before x y lx ly)
    ∙ (kept_fill keep s.area s.value (drawn sofar) x y ∙ ap keep (sym (after_one (λ x y. sofar.background) sofar.subrects s x y))))

pub background_drawn : (keep : ℕ → ℕ) → (area : Rect) (w h v : ℕ) (old new : Canvas) → IsTile area w h → LooksLike w h new (fill area (keep v) old) → LooksLike area.w area.h (part_of area new) (kept keep (drawn (record { background = v; subrects = [] })))
background_drawn keep area w h v old new t shows x y lx ly =
    shows (area.x + x) (area.y + y) (omega (arith, t.within.across)) (omega (arith, t.within.down))
    ∙ fill_inside area.x area.y area.w area.h (keep v) old (area.x + x) (area.y + y) (omega arith) (omega arith) (omega arith) (omega arith)
