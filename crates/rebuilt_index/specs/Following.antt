-- What is known of a follower of what a host says.
use Rattle.std.specs.Prelude.{◌≡◌, ℕ, ◌<◌, Bool, true, None, List, length}
use Rattle.byte_reading.specs.Reading.{after, fault_of, rest, wants_more}
use Rattle.raster.specs.Screen.{LooksLike}
use Rattle.raster.specs.Update.{screen}
use Rattle.painter.specs.Painter.{Painting, worked}
use Rattle.host_decoder.specs.Decoder.{Decodes, Decoding, host_message, start}
use Rattle.host_decoder.specs.Updates.{updates}
use Rattle.rebuilt_index.specs.declared.follower.Follower.{Follower}

-- A screen of w by h, black at first, was painted by these bytes of a host, whose last message may not be whole. Where
-- the bytes end between two messages, no byte of a message is held.
pub record FollowsBy (w h : ℕ) (decoder : Decoding) (painter : Painting) (is_between : Bool) (stream : List ℕ) : Type 0 where
  pub wide : decoder.width ≡ w
  pub high : decoder.height ≡ h
  pub reads : Decodes decoder painter (screen (updates w h stream)) (rest (host_message w h) stream)
  pub wants : wants_more (rest (host_message w h) stream) ≡ true
  pub between : is_between ≡ true → rest (host_message w h) stream ≡ host_message w h
  pub none : is_between ≡ true → decoder.state ≡ start

abbrev pub Follows : ℕ → ℕ → Follower → (stream : List ℕ) → Type 0
Follows w h f stream = FollowsBy w h f.decoder f.painter f.is_between stream

-- The follower has read the stream, and was then fed a piece. It has used this up to the end of a message, or all of
-- it.
pub record HasFed (w h : ℕ) (f : Follower) (stream piece : List ℕ) : Type 0 where
  pub wide : f.decoder.width ≡ w
  pub high : f.decoder.height ≡ h
  pub some : 0 < length piece
  pub wants : wants_more (rest (host_message w h) stream) ≡ true
  pub reads : Decodes f.decoder f.painter (screen (updates w h stream)) (after (rest (host_message w h) stream) piece)
  pub fine : fault_of (after (rest (host_message w h) stream) piece) ≡ None

-- Two screens of one size show the same.
pub record Shows (one other : Painting) : Type 0 where
  pub wide : other.width ≡ one.width
  pub high : other.height ≡ one.height
  pub same : LooksLike one.width one.height (worked one) (worked other)
