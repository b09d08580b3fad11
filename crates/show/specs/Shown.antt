-- A picture of a recorded session as a file of PNG.
use Rattle.std.specs.Prelude.{◌≡◌, ◌⊎◌, ℕ, List}
use Rattle.fault.specs.declared.kinds.Fault.{Fault}
use Rattle.fault.specs.declared.kinds.Fault.TheVariants.{Memory}
use Rattle.link.specs.Links.{LinkState}
use Rattle.playback.specs.Playing.{IsPlayed, IsPlayedOut, Played, state_of}
use Rattle.png.specs.Png.{IsPng}
use Rattle.recorded_picture.specs.Picture.{Shown}
use Rattle.recorded_picture.specs.Recorded.{HasNone, ShowsAll}

-- The bytes are a file of PNG that shows what a host's screen shows after all that came over the link, until it ended.
pub record ShowsAsPng (old new : LinkState) (bytes : List ℕ) : Type 0 where
  pub picture : Shown
  pub shows : ShowsAll old new picture
  pub file : IsPng picture.width picture.height picture.colours bytes

-- The bytes are a file of PNG that shows a recording. All was taken of it that is heard of its blocks up to the time up
-- to which it is played, and nothing more comes. That time is the one up to which it was to be played, and so is the
-- place from which on.
pub record ShowsRecording (has_come : ℕ → Type 0) (is_all : ℕ → List ℕ → Type 0) (old new : Played) (bytes : List ℕ) : Type 0 where
  pub shows : ShowsAsPng (state_of old) (state_of new) bytes
  pub played : IsPlayed has_come new
  pub out : IsPlayedOut is_all new
  pub until : new.until ≡ old.until
  pub key : new.key ≡ old.key

-- There is no picture, or no memory for its file.
abbrev pub HasNoPng : Fault → (old new : LinkState) → Type 0
HasNoPng fault old new = (fault ≡ Memory) ⊎ HasNone fault old new
