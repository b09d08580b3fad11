-- What was read of the file of a recording, and how its blocks are read on (own).
use Rattle.std.specs.Prelude.{◌≡◌, ℕ, Bool, true, false, List, [], ◌++◌}
use Rattle.recording.specs.declared.bad.BadRecording.TheVariants as recording
use Rattle.playback.specs.declared.bad.BadPlayback.{BadPlayback}
use Rattle.playback.specs.declared.bad.BadPlayback.TheVariants.{Recording, Opening, File}
use Rattle.recording.specs.Recording.{Block, line}
use Rattle.recording.specs.Progress.{Progress, HasRead, ahead}

-- What contracts see of a file that is read: whether it went to another place, and what was read before that; from
-- which place on it is read now, and all that was read from there; those bytes that the reader of blocks hasn't seen
-- yet, and what that reader holds.
pub record Reel : Type 0 where
  pub is_behind : Bool
  pub before : List ℕ
  pub start : ℕ
  pub so_far : List ℕ
  pub unread : List ℕ
  pub reader : Progress

-- What was read from the file's beginning on.
abbrev pub first_in : (is_behind : Bool) → (before so_far : List ℕ) → List ℕ
first_in true before so_far = before
first_in false before so_far = so_far

abbrev pub first_of : Reel → List ℕ
first_of r = first_in r.is_behind r.before r.so_far

-- What was read from the other place on.
abbrev pub later_in : (is_behind : Bool) → List ℕ → List ℕ
later_in true so_far = so_far
later_in false so_far = []

-- The bytes that the reader of blocks is to see. At another place it sees the line of a recording first.
abbrev pub stream_in : (is_behind : Bool) → List ℕ → List ℕ
stream_in true so_far = line ++ so_far
stream_in false so_far = so_far

abbrev pub later_of : Reel → List ℕ
later_of r = later_in r.is_behind r.so_far

abbrev pub stream_of : Reel → List ℕ
stream_of r = stream_in r.is_behind r.so_far

-- The reader has seen all bytes but these, and has gone past these blocks. Before the file goes to another place it is
-- read from its beginning on.
pub record HasBlocks (r : Reel) (gone : List Block) : Type 0 where
  pub start : r.is_behind ≡ false → r.start ≡ 0
  pub fed : List ℕ
  pub parts : stream_of r ≡ fed ++ r.unread
  pub read : HasRead fed gone (ahead r.reader)

-- More was read from the same place on, or nothing was; and the same blocks are gone.
pub record ReadsOn (old new : Reel) : Type 0 where
  pub place : new.is_behind ≡ old.is_behind
  pub before : new.before ≡ old.before
  pub start : new.start ≡ old.start
  pub gone : (gone : List Block) → HasBlocks old gone → HasBlocks new gone

-- Why no more can be read of it: its file failed, or memory was refused.
abbrev pub IsNoMore : (has_failed : Type 0) → BadPlayback → Type 0
IsNoMore has_failed (Recording bad) = bad ≡ recording.Memory
IsNoMore has_failed (Opening bad) = ⊥
IsNoMore has_failed File = has_failed
