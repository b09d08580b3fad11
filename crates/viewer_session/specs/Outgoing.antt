-- What waits to be sent of a session: the piece that is shown, and what comes after it (RFC 6143, 7.6).
use Rattle.std.specs.Prelude.{◌≡◌, ℕ, ◌≤◌, ◌+◌, ◌*◌, Bool, true, max, if◌then◌else◌, is_some, List, [], ◌++◌, length, Option, Some, None, IfSome}
use Rattle.raster.specs.declared.size.Size.{Size}
use Rattle.raster.specs.Update.{NumberedText}
use Rattle.rfb_wire.specs.Writing.{server_text_bytes, size_bytes}
use Rattle.reflect_core.specs.declared.cut.Cut.{Cut}
use Rattle.reflect_core.specs.Source.{copies_in}
use Rattle.update_encoder.specs.Coming.{AnswerStands, coming, front_bytes}
use Rattle.viewer_session.specs.declared.update.Update.{Update}
use Rattle.viewer_session.specs.declared.update.Update.TheVariants.{Runs, Whole}
use Rattle.viewer_session.specs.declared.coming.Coming as declared
use Rattle.raster.specs.declared.tile.TheConstants.{TILE_SIDE}

-- How much room there is for a piece, how many bytes were put into it, and which of them aren't sent yet.
pub record Waiting : Type 0 where
  pub room : ℕ
  pub filled : ℕ
  pub unsent : List ℕ

-- The most bytes of a piece, over a screen of this width: those of the longest text's message (7.6.4), or of a
-- rectangle's header and one row of tiles in the widest format (7.6.1).
abbrev pub longest_piece : ℕ → ℕ
longest_piece w = max 65544 (12 + 64 * w)

-- A text as its message (7.6.4).
abbrev pub text_message : Option NumberedText → List ℕ
text_message None = []
text_message (Some last) = server_text_bytes last.text

-- What is still to come of an answer: its header and copies, unless these were put out already, and its rectangles
-- (7.6.1); or all that is left of one that was written whole.
abbrev pub answer_coming : Bool → Option Update → Cut → List ℕ
answer_coming head None cut = []
answer_coming head (Some (Runs answer)) cut = (if head then front_bytes (copies_in cut) answer.count else []) ++ coming answer cut
answer_coming head (Some (Whole left)) cut = left

-- It is an answer that was begun at this cut, or was written whole.
abbrev pub IsUpdateOf : Cut → Update → Type 0
IsUpdateOf cut (Runs answer) = AnswerStands answer cut
IsUpdateOf cut (Whole left) = Unit {0}

-- The bytes that tell a size, where one is to be told, before these.
abbrev pub size_and : Option Size → List ℕ → List ℕ
size_and None bytes = bytes
size_and (Some size) bytes = size_bytes size ++ bytes

-- What comes after the piece: a text of the cut, a size, and an answer.
abbrev pub all_coming : declared.Coming → Cut → List ℕ
all_coming c cut = (if c.text then text_message cut.text else []) ++ size_and c.size (answer_coming c.head c.answer cut)

-- A size that fits into a screen of the greatest size.
pub record IsSmall (size : Size) : Type 0 where
  pub wide : size.width ≤ 4096
  pub high : size.height ≤ 4096

-- What is still to come is of this cut: its text, where one comes, and an answer that was begun at it.
pub record IsOf (c : declared.Coming) (cut : Cut) : Type 0 where
  pub text : c.text ≡ true → is_some cut.text ≡ true
  pub size : IfSome c.size IsSmall
  pub answer : IfSome c.answer (IsUpdateOf cut)

-- ---- what contracts see of it

-- The last cut, how many bytes were put into the piece, the unsent bytes of the piece, and all unsent bytes.
pub record Sending : Type 0 where
  pub cut : Cut
  pub filled : ℕ
  pub piece : List ℕ
  pub unsent : List ℕ

-- The piece and the strip are large enough; what comes is the cut's; and nothing comes after an empty piece.
pub record IsOutgoing (cut : Cut) (piece : Waiting) (strip : ℕ) (c : declared.Coming) : Type 0 where
  pub room : piece.room ≡ longest_piece cut.width
  pub long : strip ≡ TILE_SIDE * cut.width
  pub is_of : IsOf c cut
  pub shows : length piece.unsent ≡ 0 → all_coming c cut ≡ []
