-- An answer of a cut is one of the screen that was cut. A cut shows no more than its due tiles, and an answer needs no
-- more.
use Rattle.std.proofs.Common.{◌≡◌, ℕ, zero, suc, ◌+◌, ◌-◌, ◌*◌, ◌/◌, ◌%◌, ◌<◌, ◌≤◌, Bool, true, false, cond, List, [], ◌∷◌, take, Option, Some, None, refl, sym, ap, ◌∙◌, arith}
use Rattle.std.specs.Prelude.{min, max, map, nat_lt, ◌&&◌, ◌||◌, ◌==◌, ◌++◌}
use Rattle.std.specs.List.{flat_map, range_with_len}
use Rattle.std.proofs.Math.Path.{fun_ext}
use Rattle.std.proofs.lemmas.Bool.{and_parts, ltb-true}
use Rattle.pixel_format.specs.PixelFormat.{tint}
use Rattle.raster.specs.declared.encoding.Encoding.TheVariants.{Raw}
use Rattle.raster.specs.declared.rect.Rect.{Rect}
use Rattle.raster.specs.Encoding.{encoding_number, form}
use Rattle.raster.specs.Screen.{Canvas, IsWithin, common, holds, meets, part_of, tile_count, tile_rect, tiles_across}
use Rattle.raster.specs.Size.{IsScreenSize}
use Rattle.raster.specs.Update.{Paint, Update, screen}
use Rattle.raster.proofs.Places.{holds_has, tile_of, tile_of_has, tile_of_there}
use Rattle.raster.proofs.Spellings.{Each}
use Rattle.raster.proofs.Values.{column_in, row_in}
use Rattle.reflect_core.specs.declared.cut.Cut.{Cut}
use Rattle.reflect_core.specs.Source.{IsCutOf, marked}
use Rattle.joined_runs.specs.Joined.{form_of, saves_bytes_as}
use Rattle.rfb_wire.specs.Writing.{rectangle_bytes, update_bytes}
use Rattle.tiles.specs.Brings.{IsPart, some_holds}
use Rattle.tiles.specs.Have.{SentTiles}
use Rattle.tiles.specs.Touched.{runs, runs_of_row}
use Rattle.tiles.proofs.Brought.{runs_bring_the_due}
use Rattle.tiles.proofs.FoundRuns.{row_of_tile, row_under}
use Rattle.tiles.proofs.RunLaws.{runs_within}
use Rattle.update_encoder.specs.Answer.{all_spelled, answer_bytes, colours_in, copy_bytes, copy_source, repeats_one, same_numbers, spelled}
use Rattle.update_encoder.specs.Coming.{shown}
use Rattle.update_encoder.specs.Style.{Style}
use Rattle.update_encoder.specs.Written.{CutIsAnswered, is_still_due_of}
use Rattle.update_encoder.proofs.StillDue.{due_where_met, shown_as_it_was}
use Rattle.raster.proofs.PixelRows.{map_same}
use Rattle.raster.specs.declared.tile.TheConstants.{TILE_SIDE}

-- ---- rectangles of two screens that show the same in them

some_width : (w h k : ℕ) → k < w * h → 0 < w
some_width zero h k lt = absurd (let none : 0 * h ≡ 0 = omega arith in omega (arith, none))
some_width (suc w) h k lt = omega arith

-- The colours of a rectangle, of screens that look alike in it.
pub colours_same : (a b : Canvas) (area : Rect) → ((x y : ℕ) → area.x ≤ x → x < area.x + area.w → area.y ≤ y → y < area.y + area.h → a x y ≡ b x y) → colours_in a area ≡ colours_in b area
colours_same a b area same =
    map_same (λ k. part_of area a (k % area.w) (k / area.w)) (λ k. part_of area b (k % area.w) (k / area.w)) (area.w * area.h)
    (λ k lt.
    let wide : 0 < area.w = some_width area.w area.h k lt in
    let column : k % area.w < area.w = column_in area.w k wide in
    let row : k / area.w < area.h = row_in area.w area.h k wide lt in
    same (area.x + k % area.w) (area.y + k / area.w) (omega arith) (omega arith) (omega arith) (omega arith))

abbrev SameIn : Canvas → Canvas → Rect → Type 0
SameIn a b r = colours_in a r ≡ colours_in b r

abbrev SameInOne : Canvas → Canvas → Option Rect → Type 0
SameInOne a b None = Unit {0}
SameInOne a b (Some r) = SameIn a b r

repeats_same : (a b : Canvas) (before : Option Rect) (r : Rect) → SameInOne a b before → SameIn a b r → repeats_one a before r ≡ repeats_one b before r
repeats_same a b None r s e = refl
repeats_same a b (Some above) r s e =
    let with_same : Bool → Bool = λ c. (above.x == r.x) && ((above.w == r.w) && ((above.h == r.h) && ((above.y + above.h == r.y) && c))) in
    ap (λ xs. with_same (same_numbers xs (colours_in a r))) s ∙ ap (λ xs. with_same (same_numbers (colours_in b above) xs)) e

abbrev spelled_by : Style → Bool → Option Rect → Rect → Bool → List ℕ → List ℕ
spelled_by style may_copy before r does_repeat colours =
    let kind = style.choice.kind in
    let values = map (tint style.format) colours in
    cond (may_copy && does_repeat) (rectangle_bytes r 1 (copy_source before))
    (cond (saves_bytes_as style.runs kind style.format r.w r.h values) (rectangle_bytes r (encoding_number kind) (form_of style.runs kind style.format r.w r.h values)) (rectangle_bytes r 0 (form Raw style.format r.w r.h values)))

spelled_same : (style : Style) (a b : Canvas) (may_copy : Bool) (before : Option Rect) (r : Rect) → SameInOne a b before → SameIn a b r
    → spelled style a may_copy before r ≡ spelled style b may_copy before r
spelled_same style a b may_copy before r s e =
    ap (λ c. spelled_by style may_copy before r c (colours_in a r)) (repeats_same a b before r s e)
    ∙ ap (λ cs. spelled_by style may_copy before r (repeats_one b before r) cs) e

pub all_same : (style : Style) (a b : Canvas) (may_copy : Bool) (before : Option Rect) (rs : List Rect) → SameInOne a b before → Each (SameIn a b) rs
    → all_spelled style a may_copy before rs ≡ all_spelled style b may_copy before rs
all_same style a b may_copy before [] s each = refl
all_same style a b may_copy before (r ∷ rs) s each =
    ap (λ t. t ∷ all_spelled style a may_copy (Some r) rs) (spelled_same style a b may_copy before r s each.0)
    ∙ ap (λ ts. spelled style b may_copy before r ∷ ts) (all_same style a b may_copy (Some r) rs each.0 each.1)

-- ---- the runs of a cut

or_left : (a b : Bool) → a ≡ true → (a || b) ≡ true
or_left true b e = refl
or_left false b e = absurd cc

or_right : (a b : Bool) → b ≡ true → (a || b) ≡ true
or_right true b e = refl
or_right false b e = e

and_alike : (a b c : Bool) → (c ≡ true → a ≡ b) → (a && c) ≡ (b && c)
and_alike a b true same = ap (λ d. d && true) (same refl)
and_alike true true false same = refl
and_alike true false false same = refl
and_alike false true false same = refl
and_alike false false false same = refl

-- Where two screens show the same in all of some rectangles, they do in each.
pub each_same : (a b : Canvas) (w h : ℕ) (rs : List Rect) → Each (IsPart w h) rs → ((x y : ℕ) → x < w → y < h → some_holds rs x y ≡ true → a x y ≡ b x y) → Each (SameIn a b) rs
each_same a b w h [] parts same = tt
each_same a b w h (r ∷ rs) parts same = (
  colours_same a b r
      (λ x y left right top bottom.
      let across : r.x + r.w ≤ w = parts.0.inside.across in
      let down : r.y + r.h ≤ h = parts.0.inside.down in
      same x y (omega arith) (omega arith) (or_left (holds r x y) (some_holds rs x y) (holds_has r x y (record { left = left; right = right; top = top; bottom = bottom })))),
  each_same a b w h rs parts.1 (λ x y lx ly e. same x y lx ly (or_right (holds r x y) (some_holds rs x y) e)),
)

module _ (us : List Update) (n : ℕ) (area : Rect) (have : SentTiles) (since : Option ℕ) (cut : Cut) (is : IsCutOf us n area have since cut) (wide : have.width ≡ cut.width) (high : have.height ≡ cut.height) (size : IsScreenSize cut.width cut.height) where
  abbrev w : ℕ
  w = cut.width

  abbrev h : ℕ
  h = cut.height

  abbrev seen : List Update
  seen = take n us

  -- what was still due
  abbrev still : ℕ → Bool
  still t = is_still_due_of have area since seen t

  -- A tile that the area meets is one of the screen's.
  met_there : (t : ℕ) → meets area (tile_rect w h t) ≡ true → t < tile_count w h
  met_there t met =
      let across : ℕ = tiles_across w in
      let both = and_parts (nat_lt (max area.x (t % across * TILE_SIDE)) (min (area.x + area.w) (t % across * TILE_SIDE + min TILE_SIDE (w - t % across * TILE_SIDE)))) (nat_lt (max area.y (t / across * TILE_SIDE)) (min (area.y + area.h) (t / across * TILE_SIDE + min TILE_SIDE (h - t / across * TILE_SIDE)))) met in
      let down : max area.y (t / across * TILE_SIDE) < min (area.y + area.h) (t / across * TILE_SIDE + min TILE_SIDE (h - t / across * TILE_SIDE)) = ltb-true _ _ both.1 in
      let high_enough : t / across < tiles_across h = omega (arith, down) in
      let some : 0 < across = omega (arith, size.wide.0) in
      row_under t (t / across) across (tiles_across h) high_enough (row_of_tile across t some).1

  passes : (t : ℕ) → (marked cut t && meets area (tile_rect w h t)) ≡ (still t && meets area (tile_rect w h t))
  passes t =
      and_alike (marked cut t) (still t) (meets area (tile_rect w h t)) (λ met. due_where_met us n area have since cut is wide high t (met_there t met) met)

  runs_same : runs w h area (marked cut) ≡ runs w h area (is_still_due_of have area since seen)
  runs_same =
      ap (λ (p : ℕ → Bool). map (common area) (flat_map (runs_of_row p (tiles_across w)) (range_with_len 0 (tiles_across h))))
      (fun_ext passes)

  shows_same : IsWithin area w h → (x y : ℕ) → x < w → y < h → some_holds (runs w h area (marked cut)) x y ≡ true → shown cut x y ≡ screen seen x y
  shows_same on x y lx ly e =
      let t : ℕ = tile_of w x y in
      let there : t < tile_count w h = tile_of_there w h x y lx ly in
      let tile : holds (tile_rect w h t) x y ≡ true = holds_has (tile_rect w h t) x y (tile_of_has w h x y lx ly) in
      let both = and_parts (holds area x y) (marked cut t) (sym ((runs_bring_the_due w h area (marked cut) size.wide.1 size.high.1 on).exactly t x y there tile) ∙ e) in
      shown_as_it_was us n area have since cut is wide high t x y there tile both.0 both.1

  pub answered : (style : Style) (copies : List Paint) (sent : Bool) → IsWithin area w h
      → answer_bytes style (shown cut) copies sent (runs w h area (marked cut)) ≡ answer_bytes style (screen seen) copies sent (runs w h area (is_still_due_of have area since seen))
  answered style copies sent on =
      ap (λ rs. update_bytes (map copy_bytes copies ++ rs)) (all_same style (shown cut) (screen seen) (style.choice.copy && sent) None (runs w h area (marked cut)) tt
      (each_same (shown cut) (screen seen) w h (runs w h area (marked cut)) (runs_within w h area (marked cut) on) (shows_same on)))
      ∙ ap (λ (rs : List Rect). answer_bytes style (screen seen) copies sent rs) runs_same

pub cut_is_answered : CutIsAnswered
cut_is_answered us n area have since cut style copies sent is wide high size on = answered us n area have since cut is wide high size style copies sent on
