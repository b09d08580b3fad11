-- Bytes that are drawn part by part. So what is drawn of pixels and subrectangles holds of all of them.
use Rattle.std.proofs.Common.{◌≡◌, ℕ, ◌-◌, List, [], ◌++◌, length, length-append, take, drop, refl, sym, ap, ◌∙◌, append_assoc, arith}
use Rattle.std.proofs.lemmas.List.{take-append-drop, take_at}
use Rattle.pixel_format.specs.PixelFormat.{PixelFormat}
use Rattle.raster.specs.declared.rect.Rect.{Rect}
use Rattle.raster.specs.Screen.{Canvas}
use Rattle.raster.specs.Encoding.{Carried}
use Rattle.hextile_codec.specs.declared.stage.Stage.{Stage}
use Rattle.hextile_codec.specs.Ahead.{Part, Led, IsDrawn, tile_rest}
use Rattle.hextile_codec.proofs.Goes.{goes_none, goes_then}

pub led_then : (keep : ℕ → ℕ) → (format : PixelFormat) (area : Rect) (a b c : Carried) (s t u : Stage) (xs ys : List ℕ) (mid now : Canvas) (part : Part) → Led keep format area a b s t xs mid part
    → ((p : Part) → IsDrawn keep area t mid p → Led keep format area b c t u ys now p) → Led keep format area a c s u (xs ++ ys) now part
led_then keep format area a b c s t u xs ys mid now part f g =
    let h = g f.grown f.shows in
    record {
      grown = h.grown;
      goes = goes_then (tile_rest format area.w area.h a s part) (tile_rest format area.w area.h b t f.grown) (tile_rest format area.w area.h c u h.grown) xs ys f.goes h.goes;
      shows = h.shows;
    }

-- Of some bytes there are left those after the ones that were drawn.
pub record HasLed (keep : ℕ → ℕ) (format : PixelFormat) (area : Rect) (a b : Carried) (s t : Stage) (bytes rest : List ℕ) (now : Canvas) (part : Part) : Type 0 where
  pub front : List ℕ
  pub joined : front ++ rest ≡ bytes
  pub led : Led keep format area a b s t front now part

pub has_led_none : (keep : ℕ → ℕ) → (format : PixelFormat) (area : Rect) (a : Carried) (s : Stage) (bytes : List ℕ) (now : Canvas) (part : Part) → IsDrawn keep area s now part → HasLed keep format area a a s s bytes bytes now part
has_led_none keep format area a s bytes now part shows =
    record { front = []; joined = refl; led = record { grown = part; goes = goes_none (tile_rest format area.w area.h a s part); shows = shows } }

pub has_led_more : (keep : ℕ → ℕ) → (format : PixelFormat) (area : Rect) (a b c : Carried) (s t u : Stage) (bytes rest : List ℕ) (n : ℕ) (mid now : Canvas) (part : Part) → HasLed keep format area a b s t bytes rest mid part
    → ((p : Part) → IsDrawn keep area t mid p → Led keep format area b c t u (take n rest) now p) → HasLed keep format area a c s u bytes (drop n rest) now part
has_led_more keep format area a b c s t u bytes rest n mid now part f g =
    record {
      front = f.front ++ take n rest;
      joined = append_assoc f.front (take n rest) (drop n rest) ∙ (ap (λ xs. f.front ++ xs) (take-append-drop n rest) ∙ f.joined);
      led = led_then keep format area a b c s t u f.front (take n rest) mid now part f.led g;
    }

pub has_led_all : (keep : ℕ → ℕ) → (format : PixelFormat) (area : Rect) (a b : Carried) (s t : Stage) (bytes rest : List ℕ) (now : Canvas) (part : Part) → HasLed keep format area a b s t bytes rest now part
    → Led keep format area a b s t (take (length bytes - length rest) bytes) now part
has_led_all keep format area a b s t bytes rest now part f =
    let count : length bytes - length rest ≡ length f.front = omega (arith, ap length f.joined, length-append f.front rest) in
    let same : take (length bytes - length rest) bytes ≡ f.front =
    ap (λ n. take n bytes) count ∙ (ap (take (length f.front)) (sym f.joined) ∙ take_at f.front rest (length f.front) refl) in
    rw same f.led
