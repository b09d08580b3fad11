-- Fields that are drawn one after another. So what is drawn of subrectangles holds of all of them.
use Rattle.std.proofs.Common.{◌≡◌, ℕ, ◌+◌, ◌-◌, List, [], ◌++◌, length, length-append, take, drop, refl, sym, ap, ◌∙◌, append_assoc, arith}
use Rattle.std.proofs.lemmas.List.{take-append-drop, take_at}
use Rattle.pixel_format.specs.PixelFormat.{PixelFormat}
use Rattle.byte_reading.specs.Reading.{Reading, after, taken}
use Rattle.byte_reading.proofs.ReadingLaws.{after-append, taken-append, taken-nil}
use Rattle.raster.specs.Screen.{Canvas}
use Rattle.raster.specs.Encoding.{Drawing}
use Rattle.rre_codec.specs.declared.stage.Stage.{Stage}
use Rattle.rre_codec.specs.Ahead.{next_form, IsDrawn, Led}

led_then : (keeps : ℕ → ℕ) (format : PixelFormat) (w h : ℕ) (s t u : Stage) (xs ys : List ℕ) (mid now : Canvas) (sofar : Drawing) → Led keeps format w h s t xs mid sofar
    → ((d : Drawing) → IsDrawn keeps w h t mid d → Led keeps format w h t u ys now d) → Led keeps format w h s u (xs ++ ys) now sofar
led_then keeps format w h s t u xs ys mid now sofar f g =
    let l = g f.drawing f.shows in
    let form : Reading Drawing = next_form format w h s sofar in
    record {
      drawing = l.drawing;
      takes = taken-append form xs ys f.takes ∙ (ap (λ (r : Reading Drawing). length xs + taken r ys) f.reads ∙ omega (arith, l.takes, length-append xs ys));
      reads = after-append form xs ys ∙ (ap (λ (r : Reading Drawing). after r ys) f.reads ∙ l.reads);
      shows = l.shows;
    }

-- Of some bytes there are left those after the ones that were drawn.
pub record HasLed (keeps : ℕ → ℕ) (format : PixelFormat) (w h : ℕ) (s t : Stage) (bytes rest : List ℕ) (now : Canvas) (sofar : Drawing) : Type 0 where
  pub front : List ℕ
  pub joined : front ++ rest ≡ bytes
  pub led : Led keeps format w h s t front now sofar

pub has_led_none : (keeps : ℕ → ℕ) (format : PixelFormat) (w h : ℕ) (s : Stage) (bytes : List ℕ) (now : Canvas) (sofar : Drawing) → IsDrawn keeps w h s now sofar → HasLed keeps format w h s s bytes bytes now sofar
has_led_none keeps format w h s bytes now sofar shows =
    record { front = []; joined = refl; led = record { drawing = sofar; takes = taken-nil (next_form format w h s sofar); reads = refl; shows = shows } }

pub has_led_more : (keeps : ℕ → ℕ) (format : PixelFormat) (w h : ℕ) (s t u : Stage) (bytes rest : List ℕ) (n : ℕ) (mid now : Canvas) (sofar : Drawing) → HasLed keeps format w h s t bytes rest mid sofar
    → ((d : Drawing) → IsDrawn keeps w h t mid d → Led keeps format w h t u (take n rest) now d) → HasLed keeps format w h s u bytes (drop n rest) now sofar
has_led_more keeps format w h s t u bytes rest n mid now sofar f g =
    record {
      front = f.front ++ take n rest;
      joined = append_assoc f.front (take n rest) (drop n rest) ∙ (ap (λ xs. f.front ++ xs) (take-append-drop n rest) ∙ f.joined);
      led = led_then keeps format w h s t u f.front (take n rest) mid now sofar f.led g;
    }

pub has_led_all : (keeps : ℕ → ℕ) (format : PixelFormat) (w h : ℕ) (s t : Stage) (bytes rest : List ℕ) (now : Canvas) (sofar : Drawing) → HasLed keeps format w h s t bytes rest now sofar
    → Led keeps format w h s t (take (length bytes - length rest) bytes) now sofar
has_led_all keeps format w h s t bytes rest now sofar f =
    let count : length bytes - length rest ≡ length f.front = omega (arith, ap length f.joined, length-append f.front rest) in
    let same : take (length bytes - length rest) bytes ≡ f.front =
    ap (λ n. take n bytes) count ∙ (ap (take (length f.front)) (sym f.joined) ∙ take_at f.front rest (length f.front) refl) in
    rw same f.led
