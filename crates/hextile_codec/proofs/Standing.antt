-- Where a reader stands, and what that says of its way of reading. `Reader::feed` and `whole` say it of the bytes so
-- far.
use Rattle.std.proofs.Common.{◌≡◌, ℕ, ◌<◌, ◌≤◌, Bool, true, false, List, length, Some, None, is_some, refl, sym, ap, ◌∙◌, inl, inr, arith}
use Rattle.std.specs.Prelude.{◌⊎◌, ◌==◌, nat_lt, not, ◌&&◌}
use Rattle.std.proofs.lemmas.Bool.{cases_lt, ne_eqb, eq-eqb, lt-ltb}
use Rattle.std.proofs.lemmas.Bool.Decides.{nat_tests}
use Rattle.pixel_format.specs.PixelFormat.{PixelFormat}
use Rattle.byte_reading.specs.Reading.{Reading, Done, Faulty, after, wants_more, whole_of, fault_of}
use Rattle.byte_reading.proofs.ReadingLaws.{after-done, after-faulty, done_is, wants_no_fault, wants_not_whole}
use Rattle.raster.specs.declared.rect.Rect.{Rect}
use Rattle.raster.specs.Screen.{Canvas, LooksLike, tile_count, tile_rect, kept}
use Rattle.raster.specs.Encoding.{Carried, Tile, tiled}
use Rattle.raster.proofs.FixedLength.{Needs}
use Rattle.hextile_codec.specs.declared.stage.Flaw.{Flaw}
use Rattle.hextile_codec.specs.declared.stage.Stage.{Stage}
use Rattle.hextile_codec.specs.declared.stage.Stage.TheVariants.{Mask, RawPixels, Head, Subrects, Failed}
use Rattle.hextile_codec.specs.Ahead.{Sofar, IsPlace, IsReady, fault_for, is_failed, needed, next_form}
use Rattle.hextile_codec.proofs.Behind.{in_tile, behind_all}
use Rattle.hextile_codec.proofs.Needed.{form_needs, begun_wants}
use Rattle.hextile_codec.proofs.TilesShown.{ShowsBefore, all_shown}

pub wanting_lt : (k n : ℕ) (b : Bool) → (nat_lt k n && b) ≡ true → k < n
wanting_lt k n b e = grind (arith, nat_tests)

pub wanting_fine : (a b : Bool) → (a && not b) ≡ true → b ≡ false
wanting_fine true false e = refl
wanting_fine true true e = absurd cc
wanting_fine false b e = absurd cc

pub either : (b : Bool) → (b ≡ true) ⊎ (b ≡ false)
either true = inl refl
either false = inr refl

-- In front of the last tile's end.
pub ready_there : (format : PixelFormat) (w h tiles k : ℕ) (area : Rect) (stage : Stage) (filled : ℕ) → IsPlace format w h tiles k area stage filled → k < tiles → IsReady format (tile_rect w h k) stage
ready_there format w h tiles k area stage filled p lt = rw (p.lies lt) at (p.ready lt)

pub needs_there : (format : PixelFormat) (w h tiles k : ℕ) (area : Rect) (stage : Stage) (filled : ℕ) (carried : Carried) (sofar : Sofar) → IsPlace format w h tiles k area stage filled → k < tiles → is_failed stage ≡ false
    → Needs (needed format stage) (next_form format w h k carried stage sofar)
needs_there format w h tiles k area stage filled carried sofar p lt fine =
    form_needs format w h k carried stage sofar (omega (arith, lt, p.count)) (ready_there format w h tiles k area stage filled p lt) fine

-- At a fault.
pub at_fault : (format : PixelFormat) (w h k : ℕ) (flaw : Flaw) (carried : Carried) (sofar : Sofar) (begun : List ℕ) → k < tile_count w h → after (next_form format w h k carried (Failed flaw) sofar) begun ≡ Faulty (fault_for flaw)
at_fault format w h k flaw carried sofar begun lt = rw (in_tile format w h k carried (Failed flaw) sofar lt) (after-faulty {A = List Tile} (fault_for flaw) begun)

failed_stops : (format : PixelFormat) (w h k : ℕ) (stage : Stage) (carried : Carried) (sofar : Sofar) (begun : List ℕ) → k < tile_count w h → is_failed stage ≡ true
    → (wants_more (after (next_form format w h k carried stage sofar) begun) ≡ false) × (is_some (whole_of (after (next_form format w h k carried stage sofar) begun)) ≡ false)
failed_stops format w h k Mask carried sofar begun lt e = absurd cc
failed_stops format w h k (RawPixels count) carried sofar begun lt e = absurd cc
failed_stops format w h k (Head mask) carried sofar begun lt e = absurd cc
failed_stops format w h k (Subrects coloured left) carried sofar begun lt e = absurd cc
failed_stops format w h k (Failed flaw) carried sofar begun lt e =
    let f = at_fault format w h k flaw carried sofar begun lt in
    (ap (λ (r : Reading (List Tile)). wants_more r) f, ap (λ (r : Reading (List Tile)). is_some (whole_of r)) f)

-- After the last tile.
over_there : (format : PixelFormat) (w h tiles k : ℕ) (area : Rect) (stage : Stage) (filled : ℕ) (carried : Carried) (sofar : Sofar) (begun : List ℕ) → IsPlace format w h tiles k area stage filled → tiles ≤ k
    → after (next_form format w h k carried stage sofar) begun ≡ Done sofar.tiles
over_there format w h tiles k area stage filled carried sofar begun p le =
    ap (λ (r : Reading (List Tile)). after r begun) (behind_all format w h k carried stage sofar (omega (arith, p.count, le))) ∙ after-done sofar.tiles begun

open_not_whole : (format : PixelFormat) (w h tiles k : ℕ) (area : Rect) (stage : Stage) (filled : ℕ) (carried : Carried) (sofar : Sofar) (begun : List ℕ) → IsPlace format w h tiles k area stage filled → length begun ≤ filled → k < tiles
    → is_some (whole_of (after (next_form format w h k carried stage sofar) begun)) ≡ false
open_not_whole format w h tiles k area stage filled carried sofar begun p len lt = elim (either (is_failed stage)) [
  | inl failed ↦ (failed_stops format w h k stage carried sofar begun (omega (arith, lt, p.count)) failed).1
  | inr fine ↦
      wants_not_whole (after (next_form format w h k carried stage sofar) begun)
      (begun_wants (needed format stage) (next_form format w h k carried stage sofar) begun (needs_there format w h tiles k area stage filled carried sofar p lt fine) (omega (arith, p.room, len)))
]

-- It is whole after the last tile.
pub whole_there : (format : PixelFormat) (w h tiles k : ℕ) (area : Rect) (stage : Stage) (filled : ℕ) (carried : Carried) (sofar : Sofar) (begun : List ℕ) → IsPlace format w h tiles k area stage filled → length begun ≤ filled
    → (k == tiles) ≡ is_some (whole_of (after (next_form format w h k carried stage sofar) begun))
whole_there format w h tiles k area stage filled carried sofar begun p len = elim (cases_lt k tiles) [
  | inl lt ↦ ne_eqb k tiles (λ e. absurd (omega (arith, lt, e))) ∙ sym (open_not_whole format w h tiles k area stage filled carried sofar begun p len lt)
  | inr le ↦ eq-eqb k tiles (omega (arith, le, p.within)) ∙ sym (ap (λ (r : Reading (List Tile)). is_some (whole_of r)) (over_there format w h tiles k area stage filled carried sofar begun p le))
]

-- And then a canvas shows all tiles.
pub shown_there : (keep : ℕ → ℕ) → (format : PixelFormat) (w h tiles k : ℕ) (area : Rect) (stage : Stage) (filled : ℕ) (carried : Carried) (sofar : Sofar) (begun : List ℕ) (canvas : Canvas) (all : List Tile)
    → IsPlace format w h tiles k area stage filled → length begun ≤ filled → ShowsBefore keep w h k canvas sofar.tiles → after (next_form format w h k carried stage sofar) begun ≡ Done all → LooksLike w h canvas (kept keep (tiled w h all))
shown_there keep format w h tiles k area stage filled carried sofar begun canvas all p len before e = elim (cases_lt k tiles) [
  | inl lt ↦
      let t : true ≡ false = sym (ap (λ (r : Reading (List Tile)). is_some (whole_of r)) e) ∙ open_not_whole format w h tiles k area stage filled carried sofar begun p len lt in
      absurd cc
  | inr le ↦
      let same : sofar.tiles ≡ all = done_is sofar.tiles all (sym (over_there format w h tiles k area stage filled carried sofar begun p le) ∙ e) in
      rw same at (all_shown keep w h k canvas sofar.tiles (omega (arith, p.count, le)) before)
]

-- There is no fault where none was met.
pub no_fault_there : (format : PixelFormat) (w h tiles k : ℕ) (area : Rect) (stage : Stage) (filled : ℕ) (carried : Carried) (sofar : Sofar) (begun : List ℕ) → IsPlace format w h tiles k area stage filled → length begun ≤ filled → is_failed stage ≡ false
    → fault_of (after (next_form format w h k carried stage sofar) begun) ≡ None
no_fault_there format w h tiles k area stage filled carried sofar begun p len fine = elim (cases_lt k tiles) [
  | inl lt ↦
      wants_no_fault (after (next_form format w h k carried stage sofar) begun)
      (begun_wants (needed format stage) (next_form format w h k carried stage sofar) begun (needs_there format w h tiles k area stage filled carried sofar p lt fine) (omega (arith, p.room, len)))
  | inr le ↦ ap (λ (r : Reading (List Tile)). fault_of r) (over_there format w h tiles k area stage filled carried sofar begun p le)
]

not_mask : (flaw : Flaw) → Failed flaw ≡ Mask → ⊥
not_mask flaw e = let f : true ≡ false = ap (λ s. is_failed s) e in absurd cc

-- And the one that was met.
pub fault_there : (format : PixelFormat) (w h tiles k : ℕ) (area : Rect) (flaw : Flaw) (filled : ℕ) (carried : Carried) (sofar : Sofar) (begun : List ℕ) → IsPlace format w h tiles k area (Failed flaw) filled
    → fault_of (after (next_form format w h k carried (Failed flaw) sofar) begun) ≡ Some (fault_for flaw)
fault_there format w h tiles k area flaw filled carried sofar begun p = elim (cases_lt k tiles) [
  | inl lt ↦ ap (λ (r : Reading (List Tile)). fault_of r) (at_fault format w h k flaw carried sofar begun (omega (arith, lt, p.count)))
  | inr le ↦ absurd (not_mask flaw (p.over (omega (arith, le, p.within))))
]

-- Where it doesn't want a byte, none is taken.
pub closed_there : (format : PixelFormat) (w h k : ℕ) (stage : Stage) (carried : Carried) (sofar : Sofar) (begun : List ℕ) → (nat_lt k (tile_count w h) && not (is_failed stage)) ≡ false
    → wants_more (after (next_form format w h k carried stage sofar) begun) ≡ false
closed_there format w h k stage carried sofar begun e = elim (cases_lt k (tile_count w h)) [
  | inl lt ↦ elim (either (is_failed stage)) [
    | inl failed ↦ (failed_stops format w h k stage carried sofar begun lt failed).0
    | inr fine ↦ let t : true ≡ false = sym (ap (λ b. b && not (is_failed stage)) (lt-ltb k (tile_count w h) lt) ∙ ap (λ b. not b) fine) ∙ e in absurd cc
  ]
  | inr le ↦ ap (λ (r : Reading (List Tile)). wants_more r) (ap (λ (r : Reading (List Tile)). after r begun) (behind_all format w h k carried stage sofar le) ∙ after-done sofar.tiles begun)
]

-- So it wants a byte before the end of the last tile where no fault was met, and nowhere else.
pub open_there : (format : PixelFormat) (w h tiles k : ℕ) (area : Rect) (stage : Stage) (filled : ℕ) (carried : Carried) (sofar : Sofar) (begun : List ℕ) → IsPlace format w h tiles k area stage filled → length begun ≤ filled
    → (nat_lt k (tile_count w h) && not (is_failed stage)) ≡ wants_more (after (next_form format w h k carried stage sofar) begun)
open_there format w h tiles k area stage filled carried sofar begun p len = elim (either (nat_lt k (tile_count w h) && not (is_failed stage))) [
  | inl open_ ↦
      let lt : k < tiles = omega (arith, wanting_lt k (tile_count w h) (not (is_failed stage)) open_, p.count) in
      let fine : is_failed stage ≡ false = wanting_fine (nat_lt k (tile_count w h)) (is_failed stage) open_ in
      open_ ∙ sym (begun_wants (needed format stage) (next_form format w h k carried stage sofar) begun (needs_there format w h tiles k area stage filled carried sofar p lt fine) (omega (arith, p.room, len)))
  | inr closed ↦ closed ∙ sym (closed_there format w h k stage carried sofar begun closed)
]

-- In front of the last tile's end that is so where no fault was met.
pub open_before : (format : PixelFormat) (w h tiles k : ℕ) (area : Rect) (stage : Stage) (filled : ℕ) (carried : Carried) (sofar : Sofar) (begun : List ℕ) → IsPlace format w h tiles k area stage filled → length begun ≤ filled → k < tiles
    → not (is_failed stage) ≡ wants_more (after (next_form format w h k carried stage sofar) begun)
open_before format w h tiles k area stage filled carried sofar begun p len lt =
    sym (ap (λ b. b && not (is_failed stage)) (lt-ltb k (tile_count w h) (omega (arith, lt, p.count)))) ∙ open_there format w h tiles k area stage filled carried sofar begun p len

pub fine_else : (stage : Stage) → ((flaw : Flaw) → stage ≡ Failed flaw → ⊥) → is_failed stage ≡ false
fine_else Mask f = refl
fine_else (RawPixels count) f = refl
fine_else (Head mask) f = refl
fine_else (Subrects coloured left) f = refl
fine_else (Failed flaw) f = absurd (f flaw refl)
