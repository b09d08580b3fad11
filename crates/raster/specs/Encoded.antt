-- What an encoder answers.
use Rattle.std.specs.Prelude.{◌≡◌, ℕ, true, false, List, length, take, Option, Some, None}
use Rattle.pixel_format.specs.PixelFormat.{PixelFormat}
use Rattle.raster.specs.declared.encoding.Encoding.{Encoding}
use Rattle.raster.specs.Encoding.{form, saves_bytes}

-- Where the form of the values has fewer bytes than Raw, its bytes stand at the front of out, and their number is the
-- answer. Otherwise the answer is None.
abbrev pub IsEncoded : Encoding → PixelFormat → ℕ → ℕ → List ℕ → List ℕ → Option ℕ → Type 0
IsEncoded encoding format w h values out (Some n) =
    (saves_bytes encoding format w h values ≡ true) × (n ≡ length (form encoding format w h values)) × (take n out ≡ form encoding format w h values)
IsEncoded encoding format w h values out None = saves_bytes encoding format w h values ≡ false
