-- A viewer that reads a server's bytes, beside a decoder that reads them as a host's (RFC 6143, 7.6).
use Rattle.std.specs.Prelude.{◌≡◌, ℕ, List, [], ◌∷◌, Option, Some}
use Rattle.byte_reading.specs.Reading.{messages, rest}
use Rattle.raster.specs.Colours.{colour_of}
use Rattle.raster.specs.Screen.{Canvas, Map}
use Rattle.raster.specs.Update.{screen}
use Rattle.host_decoder.specs.Decoder.{host_message}
use Rattle.host_decoder.specs.Updates.{updates}
use Rattle.viewer_session.specs.Stream.{Listener, Bytes, listener}

-- The screen of w by h that a decoder shows after these bytes of a host, black at first.
abbrev pub shown_by : ℕ → ℕ → List ℕ → Canvas
shown_by w h bytes = screen (updates w h bytes)

-- Wherever a pixel value is held, its colour is shown.
abbrev pub ShowsWhatIsHeld : Map (Option ℕ) → Canvas → Type 0
ShowsWhatIsHeld held canvas = (x y value : ℕ) → held x y ≡ Some value → canvas x y ≡ colour_of value

-- A viewer that has asked for no other format than it had at first, the host's, after these bytes.
abbrev pub viewer_of : ℕ → ℕ → List ℕ → Listener
viewer_of w h bytes = listener w h (Bytes bytes ∷ [])

-- The viewer has read the host's messages in the bytes, is where the decoder is in the next one, and holds nothing that
-- the decoder doesn't show.
pub record ReadAlike (w h : ℕ) (bytes : List ℕ) : Type 0 where
  pub messages_are : (viewer_of w h bytes).messages ≡ messages (host_message w h) bytes
  pub reading_is : (viewer_of w h bytes).reading ≡ rest (host_message w h) bytes
  pub shows : ShowsWhatIsHeld (viewer_of w h bytes).follower.held (shown_by w h bytes)

-- This is so of all bytes.
abbrev pub ViewersAndDecodersReadAlike : Type 0
ViewersAndDecodersReadAlike = (w h : ℕ) (bytes : List ℕ) → ReadAlike w h bytes
