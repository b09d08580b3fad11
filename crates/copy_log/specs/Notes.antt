-- What a log keeps of a host's last updates, and what is found by it for a viewer.
use Rattle.std.specs.Prelude.{◌≡◌, ℕ, ◌+◌, ◌%◌, ◌<◌, ◌≤◌, Bool, false, ◌&&◌, ◌==◌, nat_le, List, [], length, map, slice_index_or, Option, Some, None}
use Rattle.std.specs.List.{list_any}
use Rattle.raster.specs.Screen.{IsWithin}
use Rattle.raster.specs.Update.{Paint, Copy, Update, Bell}
use Rattle.tiles.specs.Have.{SentTiles, sent_at}
use Rattle.copy_log.specs.declared.copy_rect.CopyRect.{CopyRect}
use Rattle.copy_log.specs.declared.log.TheConstants.{KEPT}
use Rattle.copy_log.specs.Passed.{Passed, BeginsWith, source_of}

-- A copy as a paint (RFC 6143, 7.7.2).
abbrev pub paint_of : CopyRect → Paint
paint_of copy = Copy copy.area copy.x copy.y

-- A copy lies on a screen of w by h, and so does its source.
abbrev pub IsOnScreen : ℕ → ℕ → CopyRect → Type 0
IsOnScreen w h copy = IsWithin copy.area w h × IsWithin (source_of copy.area copy.x copy.y) w h

-- Several copies as paints, in order.
abbrev pub paints : List CopyRect → List Paint
paints copies = map paint_of copies

-- ---- notes

-- Of one update: the copies that it begins with, and for each tile whether its other paints touch it.
pub record Noted : Type 0 where
  pub copies : List CopyRect
  pub touched : List Bool

-- The note of an update that changes nothing.
abbrev pub nothing : Noted
nothing = record { copies = []; touched = [] }

-- Tile t has a mark.
abbrev pub is_marked : List Bool → ℕ → Bool
is_marked marks t = slice_index_or marks t false

-- A number is among some others.
abbrev pub is_among : List ℕ → ℕ → Bool
is_among ts t = list_any (λ k. k == t) ts

-- The note says of an update of a screen of w by h what it begins with and touches: all of its copies stand first.
abbrev pub IsNoteOf : ℕ → ℕ → Noted → Update → Type 0
IsNoteOf w h note u = BeginsWith w h (paints note.copies) (is_marked note.touched) u

-- The size of the screen, the number of the last update, and the notes of the last updates: that of the update after
-- the first k stands at k % KEPT.
pub record Log : Type 0 where
  pub width : ℕ
  pub height : ℕ
  pub number : ℕ
  pub notes : List Noted

-- The note of the update after the first k.
abbrev pub note_at : Log → ℕ → Noted
note_at log k = slice_index_or log.notes (k % KEPT) nothing

-- The log is one of these updates: it has the note of each of the last KEPT.
pub record LogStands (log : Log) (us : List Update) : Type 0 where
  pub number : log.number ≡ length us
  pub each : (k : ℕ) → k < length us → length us ≤ k + KEPT → IsNoteOf log.width log.height (note_at log k) (slice_index_or us k Bell)

-- The log has the notes of all updates after this number.
abbrev pub reaches : Log → ℕ → Bool
reaches log since = nat_le since log.number && nat_le log.number (since + KEPT)

-- Both are of one screen size.
pub record IsSameLog (log other : Log) : Type 0 where
  pub width : other.width ≡ log.width
  pub height : other.height ≡ log.height

-- ---- what is found for a viewer

-- The size of the screen, the copies that are passed on, and for each tile whether it is lacked behind them.
pub record PassedOn : Type 0 where
  pub width : ℕ
  pub height : ℕ
  pub copies : List CopyRect
  pub lacks : List Bool

-- What is passed on and lacked.
abbrev pub passed_in : PassedOn → Passed
passed_in on = record { copies = paints on.copies; lacks = is_marked on.lacks }

-- Both are of one screen size.
pub record IsSameScreen (on other : PassedOn) : Type 0 where
  pub width : other.width ≡ on.width
  pub height : other.height ≡ on.height

-- The number is there, and it is this one.
abbrev pub is_number : Option ℕ → ℕ → Bool
is_number None n = false
is_number (Some m) n = m == n

-- Tile t was last sent at this number.
abbrev pub was_sent_at : SentTiles → ℕ → ℕ → Bool
was_sent_at have n t = is_number (sent_at have t) n
