-- What a rectangle shows once it is whole. It is one paint of the update then.
use Rattle.std.proofs.Common.{◌≡◌, ℕ, ◌<◌, Bool, true, false, List, [], ◌∷◌, ◌++◌, is_some, Ok, refl, sym, subst, ◌∙◌}
use Rattle.byte_reading.specs.Reading.{Reading, Done, after, taken, wants_more, whole_of}
use Rattle.byte_reading.proofs.ReadingLaws.{none_from, wants_from, whole_from}
use Rattle.raster.specs.declared.rect.Rect.{Rect}
use Rattle.raster.specs.Screen.{Canvas, LooksLike, kept, values_of}
use Rattle.raster.specs.Update.{Paint}
use Rattle.raster.proofs.Places.{tinted_at}
use Rattle.painter.specs.Drawing.{IsPaintedAround, IsSameAround}
use Rattle.painter.specs.Painter.{Painting, IsPaintedOver}
use Rattle.host_decoder.specs.Updates.{colour_of, in_colours}
use Rattle.host_decoder.specs.Data.{putting, Fed, FedAs, IsDrawnAs, IsWhole}
use Rattle.host_decoder.proofs.Mapping.{told, putting_done}

-- A rectangle that shows what was read of it, in colours, shows its paint.
pub drawn_whole : {A : Type 0} (draw : A → Canvas) (area : Rect) (canvas : Canvas) (reading : Reading A) (painted : Paint)
    → ((drawing : A) → reading ≡ Done drawing → LooksLike area.w area.h canvas (kept colour_of (draw drawing)))
    → Done painted ≡ putting area (told (λ drawing. values_of area.w area.h (draw drawing)) reading) → IsDrawnAs area canvas painted
drawn_whole draw area canvas reading painted shows e =
    let d = putting_done (λ drawing. values_of area.w area.h (draw drawing)) area reading painted e in
    record {
      values = values_of area.w area.h (draw d.0);
      is = sym d.2;
      shows = λ x y lx ly. shows d.0 d.1 x y lx ly ∙ sym (tinted_at colour_of area.w area.h (draw d.0) x y lx ly);
    }

-- ---- on the painter's screen

-- What is painted over a screen is painted over it around a rectangle.
pub painted_around : (start : Canvas) (paints : List Paint) (area : Rect) (painter : Painting) → IsPaintedOver start paints painter → IsPaintedAround start paints area painter
painted_around start paints area painter p = record { shows = λ x y lx ly e. p.shows x y lx ly; copies = p.copies; leads = p.leads; touched = p.touched; told = p.told }

-- Whichever rectangle is drawn on next.
pub around_anywhere : (start : Canvas) (paints : List Paint) (area other : Rect) (painter : Painting) → IsPaintedAround start paints area painter → IsPaintedAround start paints area (record painter { area = other })
around_anywhere start paints area other painter p = record { shows = p.shows; copies = p.copies; leads = p.leads; touched = p.touched; told = p.told }

pub over_anywhere : (start : Canvas) (paints : List Paint) (other : Rect) (painter : Painting) → IsPaintedOver start paints painter → IsPaintedOver start paints (record painter { area = other })
over_anywhere start paints other painter p = record { shows = p.shows; copies = p.copies; leads = p.leads; touched = p.touched; told = p.told }

-- So it is where that alone was drawn on.
pub still_around : (start : Canvas) (paints : List Paint) (old new : Painting) → IsSameAround old new → IsPaintedAround start paints old.area old → IsPaintedAround start paints old.area new
still_around start paints old new same around =
    record {
      shows = λ x y lx ly e.
          let wide : x < old.width = subst (λ (n : ℕ). x < n) same.width lx in
          let high : y < old.height = subst (λ (n : ℕ). y < n) same.height ly in
          same.outside x y wide high e ∙ around.shows x y wide high e;
      copies = same.copies ∙ around.copies;
      leads = same.leads ∙ around.leads;
      touched = rw (same.width, same.height, same.marks) around.touched;
      told = same.told ∙ around.told;
    }

-- ---- what is answered

-- It isn't whole.
pub fed_open : (Stands : Reading Paint → Type 0) (start : Canvas) (paints : List Paint) (painter : Painting) (reading : Reading Paint) (piece : List ℕ) (used : ℕ)
    → Stands (after reading piece) → FedAs reading piece (Ok used) → is_some (whole_of (after reading piece)) ≡ false → Fed Stands start paints painter reading piece (Ok (used, false))
fed_open Stands start paints painter reading piece used stands fed e =
    (stands, wants_from (after reading piece) (none_from (after reading piece) e) fed.1, fed.0)

-- It is whole, and one paint more.
pub fed_whole : (Stands : Reading Paint → Type 0) (start : Canvas) (paints : List Paint) (painter : Painting) (reading : Reading Paint) (piece : List ℕ) (used : ℕ)
    → FedAs reading piece (Ok used) → is_some (whole_of (after reading piece)) ≡ true → ((painted : Paint) → after reading piece ≡ Done painted → IsPaintedOver start (paints ++ in_colours painted ∷ []) painter)
    → Fed Stands start paints painter reading piece (Ok (used, true))
fed_whole Stands start paints painter reading piece used fed e shows =
    let whole = whole_from (after reading piece) e in
    (record { painted = whole.0; reads = whole.1; shows = shows whole.0 whole.1 }, fed.0)

-- It is whole or isn't.
pub fed_by : (b : Bool) (Stands : Reading Paint → Type 0) (start : Canvas) (paints : List Paint) (painter : Painting) (reading : Reading Paint) (piece : List ℕ) (used : ℕ)
    → FedAs reading piece (Ok used) → b ≡ is_some (whole_of (after reading piece)) → (b ≡ false → Stands (after reading piece))
    → (b ≡ true → (painted : Paint) → after reading piece ≡ Done painted → IsPaintedOver start (paints ++ in_colours painted ∷ []) painter) → Fed Stands start paints painter reading piece (Ok (used, b))
fed_by true Stands start paints painter reading piece used fed is open_ whole = fed_whole Stands start paints painter reading piece used fed (sym is) (whole refl)
fed_by false Stands start paints painter reading piece used fed is open_ whole = fed_open Stands start paints painter reading piece used (open_ refl) fed (sym is)

-- What was answered.
pub open_fed : (Stands : Reading Paint → Type 0) (start : Canvas) (paints : List Paint) (painter : Painting) (reading : Reading Paint) (piece : List ℕ) (fed : ℕ × Bool) → Fed Stands start paints painter reading piece (Ok fed) → fed.1 ≡ false
    → Stands (after reading piece) × (wants_more (after reading piece) ≡ true) × (fed.0 ≡ taken reading piece)
open_fed Stands start paints painter reading piece (used, true) f e = absurd cc
open_fed Stands start paints painter reading piece (used, false) f e = f

pub whole_fed : (Stands : Reading Paint → Type 0) (start : Canvas) (paints : List Paint) (painter : Painting) (reading : Reading Paint) (piece : List ℕ) (fed : ℕ × Bool) → Fed Stands start paints painter reading piece (Ok fed) → fed.1 ≡ true
    → IsWhole start paints painter (after reading piece) × (fed.0 ≡ taken reading piece)
whole_fed Stands start paints painter reading piece (used, true) f e = f
whole_fed Stands start paints painter reading piece (used, false) f e = absurd cc
