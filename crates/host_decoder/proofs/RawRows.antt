-- Pixels that are put after those that have come, row by row. `put_pixels` puts them so, and owes the pixels in order.
use Rattle.std.proofs.Common.{◌≡◌, ℕ, zero, suc, ◌+◌, ◌-◌, ◌*◌, ◌/◌, ◌%◌, ◌<◌, ◌≤◌, List, [], ◌++◌, map, length, get_or, inl, inr, refl, sym, ap, subst, ◌∙◌, append_assoc, append-nil, length-append, arith}
use Rattle.std.specs.Prelude.{◌⊎◌}
use Rattle.std.specs.Int.{w32, from_le_bytes}
use Rattle.std.proofs.lemmas.Bool.{cases_lt}
use Rattle.std.proofs.lemmas.List.{get_or_append_left, get_or-append-add, length-map, map-append}
use Rattle.std.proofs.Math.Nat.{mul-le-mul_right}
use Rattle.raster.specs.declared.rect.Rect.{Rect}
use Rattle.raster.specs.Screen.{Canvas, LooksLike, kept, lay, value_at}
use Rattle.raster.proofs.Rows.{lay_inside, lay_outside}
use Rattle.hextile_codec.proofs.RowRead.{next_is}
use Rattle.painter.specs.Drawing.{IsSameAround, drawn, around_at_once, around_then}
use Rattle.painter.specs.Painter.{Painting}
use Rattle.host_decoder.specs.Updates.{colour_of}
use Rattle.host_decoder.specs.Data.{ShowsFirst}

-- A part of a row after the pixels that have come.
row_grows : (w h row column n : ℕ) (before more : List ℕ) (old new : Canvas) → column + n ≤ w → length before ≡ row * w + column → length more ≡ n
    → LooksLike w h new (lay (record { x = column; y = row; w = n; h = 1 }) (kept colour_of (value_at n more)) old)
    → ((x y : ℕ) → x < w → y < h → y * w + x < row * w + column → old x y ≡ colour_of (value_at w before x y))
    → (x y : ℕ) → x < w → y < h → y * w + x < row * w + column + n → new x y ≡ colour_of (value_at w (before ++ more) x y)
row_grows w h row column n before more old new across len count shows sofar x y lx ly lt =
    let there = shows x y lx ly in
    elim (cases_lt (y * w + x) (row * w + column)) [
      | inl come ↦
          let out : (x < column) ⊎ ((column + n ≤ x) ⊎ ((y < row) ⊎ (row + 1 ≤ y))) =
          elim (cases_lt y row) [
            | inl above ↦ inr (inr (inl above))
            | inr from ↦ let p : row * w ≤ y * w = mul-le-mul_right {m = row} {n = y} w from in inl (omega (arith, p))
          ] in
          there ∙ (lay_outside column row n 1 (kept colour_of (value_at n more)) old x y out ∙ (sofar x y lx ly come ∙ ap colour_of (sym (get_or_append_left before more 0 (y * w + x) (omega arith)))))
      | inr new_one ↦
          let upto : y < row + 1 = elim (cases_lt y (row + 1)) [
            | inl up ↦ up
            | inr beyond ↦ let p : (row + 1) * w ≤ y * w = mul-le-mul_right {m = row + 1} {n = y} w beyond in absurd (omega (arith, p))
          ] in
          let from : row ≤ y = elim (cases_lt y row) [
            | inl above ↦ let p : (y + 1) * w ≤ row * w = mul-le-mul_right {m = y + 1} {n = row} w (omega arith) in absurd (omega (arith, p))
            | inr on ↦ on
          ] in
          let here : y ≡ row = omega arith in
          let at_row : y * w ≡ row * w = ap (λ k. k * w) here in
          let index : y * w + x ≡ length before + (x - column) = omega (arith, at_row) in
          let inside = lay_inside column row n 1 (kept colour_of (value_at n more)) old x y (omega (arith, at_row)) (omega (arith, at_row)) (omega arith) (omega arith) in
          let dx : (y - row) * n + (x - column) ≡ x - column = let z : y - row ≡ 0 = omega arith in rw z (omega arith) in
          there ∙ (inside ∙ ap colour_of (ap (λ k. get_or more k 0) dx ∙ sym (ap (λ k. get_or (before ++ more) k 0) index ∙ get_or-append-add before more (x - column) 0)))
    ]

pub first_grow : (area : Rect) (at n : ℕ) (before more : List ℕ) (old new : Canvas) → 0 < area.w → at < area.w * area.h → n ≤ area.w - at % area.w → length before ≡ at → length more ≡ n
    → LooksLike area.w area.h new (lay (record { x = at % area.w; y = at / area.w; w = n; h = 1 }) (kept colour_of (value_at n more)) old) → ShowsFirst area old before → ShowsFirst area new (before ++ more)
first_grow area at n before more old new some lt le len count shows sofar x y lx ly inside =
    let i = next_is area.w area.h at some lt in
    row_grows area.w area.h (at / area.w) (at % area.w) n before more old new (omega (arith, i.column, le)) (len ∙ sym i.is) count shows
    (λ u v lu lv k. sofar u v lu lv (omega (arith, i.is, k, len))) x y lx ly (omega (arith, i.is, inside, length-append before more, len, count))

-- ---- pixels that are put one part of a row after another

-- This many of them are put, and these are left.
pub record HasPut (old now : Painting) (done at : ℕ) (pixels left : List (List ℕ)) : Type 0 where
  pub front : List (List ℕ)
  pub joined : front ++ left ≡ pixels
  pub count : at ≡ done + length front
  pub around : IsSameAround old now
  pub shows : (values : List ℕ) → length values ≡ done → ShowsFirst old.area (drawn old) values → ShowsFirst old.area (drawn now) (values ++ map (from_le_bytes w32) front)

pub put_none : (painter : Painting) (done : ℕ) (pixels : List (List ℕ)) → HasPut painter painter done done pixels pixels
put_none painter done pixels =
    record { front = []; joined = refl; count = omega arith; around = around_at_once painter; shows = λ values e s. rw (append-nil values) s }

-- ---- where the next one stands

-- A rectangle that has positions is wide.
pub some_wide : (w h at : ℕ) → at < w * h → 0 < w
some_wide zero h at lt = absurd (omega (arith, lt))
some_wide (suc w) h at lt = omega arith

pub put_more : (old now next : Painting) (width done at : ℕ) (pixels left row rest : List (List ℕ)) → width ≡ old.area.w → HasPut old now done at pixels left → row ++ rest ≡ left → at < old.area.w * old.area.h → length row ≤ width - at % width → IsSameAround now next
    → LooksLike now.area.w now.area.h (drawn next) (lay (record { x = at % width; y = at / width; w = length row; h = 1 }) (kept colour_of (value_at (length row) (map (from_le_bytes w32) row))) (drawn now))
    → HasPut old next done (at + length row) pixels rest
put_more old now next width done at pixels left row rest wide p split lt le same shows =
    let over : Canvas = kept colour_of (value_at (length row) (map (from_le_bytes w32) row)) in
    let few : length row ≤ old.area.w - at % old.area.w = subst (λ (k : ℕ). length row ≤ k - at % k) wide le in
    let there : LooksLike now.area.w now.area.h (drawn next) (lay (record { x = at % old.area.w; y = at / old.area.w; w = length row; h = 1 }) over (drawn now)) =
    subst (λ (k : ℕ). LooksLike now.area.w now.area.h (drawn next) (lay (record { x = at % k; y = at / k; w = length row; h = 1 }) over (drawn now))) wide shows in
    let looks : LooksLike old.area.w old.area.h (drawn next) (lay (record { x = at % old.area.w; y = at / old.area.w; w = length row; h = 1 }) over (drawn now)) =
    subst (λ (a : Rect). LooksLike a.w a.h (drawn next) (lay (record { x = at % old.area.w; y = at / old.area.w; w = length row; h = 1 }) over (drawn now))) p.around.area there in
    record {
      front = p.front ++ row;
      joined = append_assoc p.front row rest ∙ (ap (λ (t : List (List ℕ)). p.front ++ t) split ∙ p.joined);
      count = omega (arith, p.count, length-append p.front row);
      around = around_then old now next p.around same;
      shows = λ values e s.
          let before : List ℕ = values ++ map (from_le_bytes w32) p.front in
          let more : List ℕ = map (from_le_bytes w32) row in
          let size : length before ≡ at = omega (arith, length-append values (map (from_le_bytes w32) p.front), length-map p.front (from_le_bytes w32), e, p.count) in
          let all : before ++ more ≡ values ++ map (from_le_bytes w32) (p.front ++ row) =
          append_assoc values (map (from_le_bytes w32) p.front) more ∙ ap (λ (t : List ℕ). values ++ t) (sym (map-append (from_le_bytes w32) p.front row)) in
          subst (λ (t : List ℕ). ShowsFirst old.area (drawn next) t) all (first_grow old.area at (length row) before more (drawn now) (drawn next) (some_wide old.area.w old.area.h at lt) lt few size (length-map row (from_le_bytes w32)) looks (p.shows values e s));
    }
