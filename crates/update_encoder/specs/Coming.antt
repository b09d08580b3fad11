-- An answer that is written one rectangle at a time.
use Rattle.std.specs.Prelude.{◌≡◌, ℕ, ◌+◌, Bool, List, ◌∷◌, ◌++◌, length, Option}
use Rattle.std.specs.List.{flat_map}
use Rattle.raster.specs.declared.rect.Rect.{Rect}
use Rattle.raster.specs.Screen.{Canvas, value_at}
use Rattle.raster.specs.Update.{Paint}
use Rattle.rfb_wire.specs.Writing.{update_head_bytes}
use Rattle.tiles.specs.Walk.{Walking, runs_left}
use Rattle.reflect_core.specs.declared.cut.Cut.{Cut}
use Rattle.reflect_core.specs.Source.{marked}
use Rattle.update_encoder.specs.Answer.{all_spelled, copy_bytes, spelled}
use Rattle.update_encoder.specs.Style.{Style}

-- What is kept of an answer: where the walk over its runs stands, its style, whether it may use CopyRect, the rectangle
-- that it wrote last, and how many rectangles it has in all (own).
pub record Answering : Type 0 where
  pub walk : Walking
  pub style : Style
  pub may_copy : Bool
  pub before : Option Rect
  pub count : ℕ

-- What a cut shows (own).
abbrev pub shown : Cut → Canvas
shown cut = value_at cut.width cut.colours.items

-- What comes before the rectangles of an answer: its header, which counts the copies that are passed on and the
-- rectangles, and the copies (RFC 6143, 7.6.1 and 7.7.2).
abbrev pub front_bytes : (copies : List Paint) → (count : ℕ) → List ℕ
front_bytes copies count = update_head_bytes (length copies + count) ++ flat_map copy_bytes copies

-- It is an answer from a cut of this size (own).
pub record AnswerStands (answer : Answering) (cut : Cut) : Type 0 where
  pub width : answer.walk.width ≡ cut.width
  pub height : answer.walk.height ≡ cut.height

-- The rectangles that aren't written yet (own).
abbrev pub left : Answering → Cut → List Rect
left answer cut = runs_left answer.walk (marked cut)

-- The bytes of the rectangles that aren't written yet (RFC 6143, 7.6.1).
abbrev pub coming : Answering → Cut → List ℕ
coming answer cut = flat_map (λ r. r) (all_spelled answer.style (shown cut) answer.may_copy answer.before (left answer cut))

-- The first of the rectangles that were left was written, as these bytes (own).
pub record WroteNext (before now : Answering) (cut : Cut) (bytes : List ℕ) : Type 0 where
  pub rectangle : Rect
  pub is_first : left before cut ≡ rectangle ∷ left now cut
  pub bytes_are : bytes ≡ spelled before.style (shown cut) before.may_copy before.before rectangle
  pub others : coming before cut ≡ bytes ++ coming now cut

-- Both are the same answer, perhaps at different rectangles (own).
pub record IsSameAnswer (before now : Answering) : Type 0 where
  pub area : now.walk.area ≡ before.walk.area
  pub style : now.style ≡ before.style
  pub may_copy : now.may_copy ≡ before.may_copy
  pub count : now.count ≡ before.count
