-- What writing a rectangle leaves, and whose colours an answer shows.
use Rattle.std.specs.Prelude.{◌≡◌, ℕ, Bool, true, false, ◌&&◌, List, length, take, Option, Some, None}
use Rattle.pixel_format.specs.PixelFormat.{PixelFormat}
use Rattle.raster.specs.declared.rect.Rect.{Rect}
use Rattle.raster.specs.declared.encoding.Encoding.{Encoding}
use Rattle.raster.specs.Encoding.{encoding_number}
use Rattle.raster.specs.Screen.{IsWithin, tile_rect}
use Rattle.raster.specs.Update.{Paint, Update, screen}
use Rattle.raster.specs.Size.{IsScreenSize}
use Rattle.joined_runs.specs.declared.rect_form.RectForm.{RectForm}
use Rattle.joined_runs.specs.Joined.{form_of, saves_bytes_as}
use Rattle.rfb_wire.specs.Writing.{rectangle_bytes}
use Rattle.tiles.specs.Have.{SentTiles, sent_at}
use Rattle.tiles.specs.Touched.{is_due_since, runs}
use Rattle.reflect_core.specs.declared.cut.Cut.{Cut}
use Rattle.reflect_core.specs.Source.{IsCutOf, marked, passed_to}
use Rattle.update_encoder.specs.Answer.{answer_bytes}
use Rattle.update_encoder.specs.Coming.{shown}
use Rattle.update_encoder.specs.Style.{Style}

-- These bytes stand at the front, and n is how many they are.
pub record IsFront (bytes now : List ℕ) (n : ℕ) : Type 0 where
  pub count : n ≡ length bytes
  pub front : take n now ≡ bytes

-- At the front stands a rectangle in an encoding, and the number is how many bytes it has. Where there is no number,
-- the encoding doesn't save bytes.
abbrev pub IsSaved : RectForm → Encoding → PixelFormat → Rect → List ℕ → List ℕ → Option ℕ → Type 0
IsSaved runs kind format r values now (Some n) =
    (saves_bytes_as runs kind format r.w r.h values ≡ true) × IsFront (rectangle_bytes r (encoding_number kind) (form_of runs kind format r.w r.h values)) now n
IsSaved runs kind format r values now None = saves_bytes_as runs kind format r.w r.h values ≡ false

-- Tile t is lacked behind the copies that are passed on, and was never sent, or was touched after it was last sent.
abbrev pub is_still_due_of : SentTiles → Rect → Option ℕ → List Update → ℕ → Bool
is_still_due_of have area since us t =
    (passed_to have area since us).lacks t && is_due_since (tile_rect have.width have.height t) (sent_at have t) us

-- Of what a cut shows, the tiles that it marks are answered, behind any copies. That answer has the same bytes as one
-- of the screen that was cut, in the tiles that were still due there.
abbrev pub CutIsAnswered : Type 0
CutIsAnswered =
    (us : List Update) (n : ℕ) (area : Rect) (have : SentTiles) (since : Option ℕ) (cut : Cut) (style : Style) (copies : List Paint) (sent : Bool)
    → IsCutOf us n area have since cut → have.width ≡ cut.width → have.height ≡ cut.height → IsScreenSize cut.width cut.height → IsWithin area cut.width cut.height
    → answer_bytes style (shown cut) copies sent (runs cut.width cut.height area (marked cut))
    ≡ answer_bytes style (screen (take n us)) copies sent (runs cut.width cut.height area (is_still_due_of have area since (take n us)))
