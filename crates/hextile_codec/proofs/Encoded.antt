-- What is answered of a rectangle, from what its tiles come to. Both forms are answered so.
use Rattle.std.proofs.Common.{◌≡◌, ◌*◌, ◌<◌, ◌≤◌, ◌∙◌, ◌++◌, Bool, true, false, cond, ℕ, List, Option, Some, None, length, take, ap, arith}
use Rattle.std.specs.Prelude.{MatchOption, nat_le}
use Rattle.std.proofs.lemmas.Bool.{lt-ltb, le-ltb, le-leb, lt-leb}
use Rattle.std.proofs.lemmas.List.{take-append-le}
use Rattle.pixel_format.specs.PixelFormat.{PixelFormat, pixel_len}
use Rattle.raster.specs.declared.encoding.Encoding.TheVariants.{Hextile}
use Rattle.raster.specs.Screen.{value_at, tile_count}
use Rattle.raster.specs.Encoding.{raw_bytes, nothing_carried}
use Rattle.joined_runs.specs.declared.rect_form.RectForm.{RectForm}
use Rattle.joined_runs.specs.declared.rect_form.RectForm.TheVariants.{OfRows, Joined}
use Rattle.joined_runs.specs.Joined.{form_of, saves_bytes_as, IsEncodedAs, hextile_bytes_as, shorter}
use Rattle.joined_runs.proofs.SameTiles.{same_tiles}
use Rattle.hextile_codec.proofs.Drawings.{raw_len}

-- These bytes stand at the front, before its end, or they don't fit.
abbrev pub AreAnswered : List ℕ → List ℕ → List ℕ → Option ℕ → Type 0
AreAnswered bytes old new answer = MatchOption answer (length old ≤ length bytes) (λ n. (n ≡ length bytes) × (n < length old) × (take n new ≡ bytes))

module _ (form : RectForm) (format : PixelFormat) (w h : ℕ) (values : List ℕ) where
  abbrev bytes : List ℕ
  bytes = form_of form Hextile format w h values

  saves : length bytes < length values * pixel_len format → saves_bytes_as form Hextile format w h values ≡ true
  saves lt = lt-ltb (length bytes) (length (raw_bytes format values)) (omega (arith, raw_len format values))

  saves_nothing : length values * pixel_len format ≤ length bytes → saves_bytes_as form Hextile format w h values ≡ false
  saves_nothing le = le-ltb (length bytes) (length (raw_bytes format values)) (omega (arith, raw_len format values))

  pub encoded : (room now more : List ℕ) (result : Option ℕ) → length room ≡ length values * pixel_len format → length now ≡ length room
      → AreAnswered bytes room now result → IsEncodedAs form Hextile format w h values (now ++ more) result
  encoded room now more None size kept said = saves_nothing (omega (arith, size, said))
  encoded room now more (Some n) size kept said =
      let le : n ≤ length now = omega (arith, said.1, kept) in
      (saves (omega (arith, said.0, said.1, size)), said.0, take-append-le n now more le ∙ said.2)

-- Tile by tile the runs of rows come to their form.
pub rows_form : (format : PixelFormat) (w h : ℕ) (values : List ℕ) → hextile_bytes_as OfRows format w h (value_at w values) ≡ form_of OfRows Hextile format w h values
rows_form format w h values = same_tiles format w h (value_at w values) nothing_carried 0 (tile_count w h)

pub joined_form : (format : PixelFormat) (w h : ℕ) (values : List ℕ)
    → shorter (hextile_bytes_as Joined format w h (value_at w values)) (hextile_bytes_as OfRows format w h (value_at w values)) ≡ form_of Joined Hextile format w h values
joined_form format w h values = ap (λ others. shorter (hextile_bytes_as Joined format w h (value_at w values)) others) (rows_form format w h values)

-- ---- the shorter of two

pub shorter_first : (xs ys : List ℕ) → length xs ≤ length ys → shorter xs ys ≡ xs
shorter_first xs ys le = ap (λ b. cond b xs ys) (le-leb (length xs) (length ys) le)

pub shorter_second : (xs ys : List ℕ) → length ys < length xs → shorter xs ys ≡ ys
shorter_second xs ys lt = ap (λ b. cond b xs ys) (lt-leb (length xs) (length ys) lt)

least : (b : Bool) (xs ys : List ℕ) (n : ℕ) → n ≤ length xs → n ≤ length ys → n ≤ length (cond b xs ys)
least true xs ys n p q = p
least false xs ys n p q = q

-- Neither fits.
pub none_fits : (bytes others old : List ℕ) → length old ≤ length bytes → length old ≤ length others → length old ≤ length (shorter bytes others)
none_fits bytes others old le also = least (nat_le (length bytes) (length others)) bytes others (length old) le also

-- The first doesn't fit, so that what was answered of the second holds.
pub second_fits : (bytes others old now new : List ℕ) (answer : Option ℕ) → length now ≡ length old → length old ≤ length bytes → AreAnswered others now new answer → AreAnswered (shorter bytes others) old new answer
second_fits bytes others old now new None size le said = none_fits bytes others old le (omega (arith, said, size))
second_fits bytes others old now new (Some end) size le said =
    let less : length others < length bytes = omega (arith, said.0, said.1, size, le) in
    rw (shorter_second bytes others less) (said.0, omega (arith, said.1, size), said.2)

-- The second is shorter.
pub second_shorter : (bytes others old now new : List ℕ) (answer : Option ℕ) → length now ≡ length old → length others < length bytes → AreAnswered others now new answer → AreAnswered (shorter bytes others) old new answer
second_shorter bytes others old now new None size lt said = rw (shorter_second bytes others lt) (omega (arith, said, size))
second_shorter bytes others old now new (Some end) size lt said = rw (shorter_second bytes others lt) (said.0, omega (arith, said.1, size), said.2)
