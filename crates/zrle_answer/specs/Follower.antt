-- A viewer that takes ZRLE, and follows what it is sent (RFC 6143, 7.6).
use Rattle.std.specs.Prelude.{◌≡◌, ℕ, ◌⊎◌, List, [], ◌∷◌, None}
use Rattle.pixel_format.specs.PixelFormat.{PixelFormat, host_format}
use Rattle.raster.specs.Update.{Paint}
use Rattle.update_encoder.specs.Follower.{Received, Format, Answer, Follower, unknown, after_rectangles}
use Rattle.zrle_answer.specs.Rectangle.{ZlibStream}
use Rattle.zrle_answer.specs.Reading.{ReadsUpdate}

-- A follower, and the state of its connection's zlib stream.
pub record ZrleFollower : Type 0 where
  pub known : Follower
  pub stream : ZlibStream

-- A change of format makes all unknown. There is one zlib stream for the connection (7.7.6), which stays as it is.
abbrev pub in_format : ZrleFollower → PixelFormat → ZrleFollower
in_format follower format = record { known = record { format = format; held = unknown }; stream = follower.stream }

-- After an update of these paints, which leaves the stream in a state.
abbrev pub after_update : ZrleFollower → List Paint → ZlibStream → ZrleFollower
after_update follower paints stream =
    record { known = record { format = follower.known.format; held = after_rectangles follower.known.held paints }; stream = stream }

-- Bytes are read as an update, in the format that was last taken.
pub record ReadsAnswer (w h : ℕ) (before : ZrleFollower) (bytes : List ℕ) (after : ZrleFollower) : Type 0 where
  pub paints : List Paint
  pub stream : ZlibStream
  pub reads : ReadsUpdate before.known.format w h before.stream bytes paints stream
  pub leaves : after ≡ after_update before paints stream

-- They aren't, whatever they bring.
abbrev pub IsUnread : ℕ → ℕ → ZrleFollower → List ℕ → Type 0
IsUnread w h before bytes = (paints : List Paint) (stream : ZlibStream) → ReadsUpdate before.known.format w h before.stream bytes paints stream → ⊥

-- What happens to a follower leads it from before to after. Bytes that aren't exactly one update change nothing.
abbrev pub Follows : ℕ → ℕ → ZrleFollower → Received → ZrleFollower → Type 0
Follows w h before (Format format) after = after ≡ in_format before format
Follows w h before (Answer bytes) after = ReadsAnswer w h before bytes after ⊎ (IsUnread w h before bytes × (after ≡ before))

-- So do several things, in order.
pub data FollowsAll : (w h : ℕ) (before : ZrleFollower) (received : List Received) (after : ZrleFollower) → Type 0 where
  none : (w h : ℕ) (follower : ZrleFollower) → FollowsAll w h follower [] follower
  one_more : (w h : ℕ) (before between after : ZrleFollower) (first : Received) (others : List Received) → Follows w h before first between → FollowsAll w h between others after → FollowsAll w h before (first ∷ others) after

-- A follower at the beginning: nothing is known, and nothing came of the stream.
abbrev pub at_first : ZrleFollower
at_first = record { known = record { format = host_format; held = unknown }; stream = None }
