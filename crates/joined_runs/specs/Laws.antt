-- What holds of both forms.
use Rattle.std.specs.Prelude.{◌≡◌, ℕ, List}
use Rattle.pixel_format.specs.PixelFormat.{PixelFormat, IsAccepted}
use Rattle.byte_reading.specs.Reading.{Spells}
use Rattle.raster.specs.declared.encoding.Encoding.{Encoding}
use Rattle.raster.specs.Encoding.{pixels}
use Rattle.raster.specs.Written.{AreValues}
use Rattle.joined_runs.specs.declared.rect_form.RectForm.{RectForm}
use Rattle.joined_runs.specs.Joined.{form_of}

-- The form of pixel values in an encoding spells these values.
abbrev pub IsReadBack : RectForm → Encoding → Type 0
IsReadBack runs encoding =
    (format : PixelFormat) (w h : ℕ) (values : List ℕ) → IsAccepted format → AreValues format w h values → Spells (pixels encoding format w h) (form_of runs encoding format w h values) values

-- No two lists of pixel values have the same form.
abbrev pub FormDetermines : RectForm → Type 0
FormDetermines runs =
    (encoding : Encoding) (format : PixelFormat) (w h : ℕ) (values others : List ℕ) → IsAccepted format → AreValues format w h values → AreValues format w h others
    → form_of runs encoding format w h values ≡ form_of runs encoding format w h others → values ≡ others
