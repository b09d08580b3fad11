-- What is true of a reading at every moment: what was taken from its host so far, and what was put of it by now (own).
use Rattle.std.specs.Prelude.{◌≡◌, ℕ, ◌⊎◌, Bool, true, false, Option, Some, None, Result, Ok, Err, List, ◌++◌}
use Rattle.fault.specs.declared.kinds.Fault.{Fault}
use Rattle.raster.specs.Screen.{Canvas}
use Rattle.raster.specs.Update.{Update}
use Rattle.painter.specs.Painter.{Painting}
use Rattle.link.specs.Links.{LinkState}
use Rattle.host_decoder.specs.Decoder.{Decoding}
use Rattle.host_reader.specs.Running.{ArePut, EndsBetween, EndsWith, HasRead, Stops}

-- ---- what is promised

-- These bytes were taken so far. All updates of the messages that are whole by now were put, one by one, and nothing
-- else: nothing of the message that is open. Or reading them came to a stop, with all that was put by then.
pub record ReadsSoFar (w h : ℕ) (screen : Canvas) (link_old link_new : LinkState) (old new : List Update) : Type 0 where
  pub stream : List ℕ
  pub taken : link_new.taken ≡ link_old.taken ++ stream
  pub put : ArePut w h screen stream old new ⊎ ((fault : Fault) × Stops w h screen fault stream old new)

-- ---- what a reading keeps

-- The bytes that were taken so far are read, and their updates were put.
pub record HasReadSoFar (w h : ℕ) (screen : Canvas) (decoder : Decoding) (painter : Painting)
    (is_between : Bool) (link_old link_new : LinkState) (old new : List Update) : Type 0 where
  pub stream : List ℕ
  pub taken : link_new.taken ≡ link_old.taken ++ stream
  pub read : HasRead w h screen decoder painter is_between stream old new

-- Reading them came to a stop.
pub record HasStopped (w h : ℕ) (screen : Canvas) (link_old link_new : LinkState) (old new : List Update) : Type 0 where
  pub stream : List ℕ
  pub taken : link_new.taken ≡ link_old.taken ++ stream
  pub fault : Fault
  pub stops : Stops w h screen fault stream old new

-- It goes on (false), or it is over.
abbrev pub IsReadSoFar : Bool → ℕ → ℕ → Canvas → Decoding → Painting → Bool → (link_old link_new : LinkState)
    → (old new : List Update) → Type 0
IsReadSoFar true w h screen decoder painter is_between link_old link_new old new =
    HasStopped w h screen link_old link_new old new
IsReadSoFar false w h screen decoder painter is_between link_old link_new old new =
    HasReadSoFar w h screen decoder painter is_between link_old link_new old new

-- ---- what a loop over its steps keeps

-- Since the link was `link_old` and the publisher had the updates `old`, these further bytes were taken, and all of
-- them were read and their updates put. The link was given nothing, and it neither failed nor ended.
pub record IsRunning (w h : ℕ) (screen : Canvas) (decoder : Decoding) (painter : Painting) (is_between : Bool)
    (link_old link_now : LinkState) (old now : List Update) : Type 0 where
  pub stream : List ℕ
  pub took : link_now ≡ record link_old { taken = link_old.taken ++ stream }
  pub read : HasRead w h screen decoder painter is_between stream old now

-- What such a loop answers, and what was put.
abbrev pub EndsSo : ℕ → ℕ → Canvas → Result (Unit {0}) Fault → (link_old link_new : LinkState)
    → (old new : List Update) → Type 0
EndsSo w h screen (Ok done) link_old link_new old new = EndsBetween w h screen link_old link_new old new
EndsSo w h screen (Err fault) link_old link_new old new = EndsWith w h screen fault link_old link_new old new

-- A step was done: it answers that the loop goes on, or that it ends, and how.
abbrev pub RunsOrEnds : Option (Result (Unit {0}) Fault) → ℕ → ℕ → Canvas → Decoding → Painting → Bool
    → (link_old link_new : LinkState) → (old new : List Update) → Type 0
RunsOrEnds None w h screen decoder painter is_between link_old link_new old new =
    IsRunning w h screen decoder painter is_between link_old link_new old new
RunsOrEnds (Some answer) w h screen decoder painter is_between link_old link_new old new =
    EndsSo w h screen answer link_old link_new old new
