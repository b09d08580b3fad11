-- What is so of answers and of those who follow them. `src/law` has a law for each of these.
use Rattle.std.specs.Prelude.{◌≡◌, ℕ, ◌+◌, ◌^◌, ◌<◌, ◌≤◌, Bool, true, false, List, [], ◌∷◌, ◌++◌, length, Some, None}
use Rattle.std.specs.List.{All}
use Rattle.pixel_format.specs.PixelFormat.{PixelFormat, IsAccepted, tint}
use Rattle.raster.specs.declared.rect.Rect.{Rect}
use Rattle.raster.specs.Screen.{Canvas, IsWithin, common, tile_count, tile_rect}
use Rattle.raster.specs.Update.{Paint, Put, Copy, Resized, Update, screen}
use Rattle.rfb_wire.specs.ServerMessage.{ServerMessage}
use Rattle.tiles.specs.Brings.{BringTheDue, IsPart, some_holds}
use Rattle.update_encoder.specs.Answer.{AreCopiesOn, answer_bytes}
use Rattle.update_encoder.specs.Follower.{Received, Format, Answer, HoldsArea, follows, only_message}
use Rattle.deflate.specs.Bits.{bits_of}
use Rattle.deflate.specs.Inflates.{Inflates}
use Rattle.zrle_codec.specs.OneThing.{BeginAlike}
use Rattle.zrle_codec.specs.Reading.{ReadsZrle}
use Rattle.zrle_answer.specs.Rectangle.{ZlibStream}
use Rattle.zrle_answer.specs.Reading.{ReadsUpdate}
use Rattle.zrle_answer.specs.Answer.{ZrleStyle, IsAnswer}
use Rattle.zrle_answer.specs.Follower.{ZrleFollower, ReadsAnswer, Follows, FollowsAll, after_update}

-- ---- one thing alone

-- An update ends at one place: none begins another, whatever follows.
abbrev pub UpdatesEndAtOnePlace : Type 0
UpdatesEndAtOnePlace =
    (format : PixelFormat) (w h : ℕ) (before after other_after : ZlibStream) (first other rest other_rest : List ℕ) (paints other_paints : List Paint) → first ++ rest ≡ other ++ other_rest
    → ReadsUpdate format w h before first paints after → ReadsUpdate format w h before other other_paints other_after → BeginAlike first other rest other_rest

-- What happens leads a follower to one state alone.
abbrev pub FollowingIsOneThing : Type 0
FollowingIsOneThing = (w h : ℕ) (before after other : ZrleFollower) (received : Received) → Follows w h before received after → Follows w h before received other → after ≡ other

-- So do several things, in order.
abbrev pub FollowingAllIsOneThing : Type 0
FollowingAllIsOneThing =
    (w h : ℕ) (before after other : ZrleFollower) (received : List Received) → FollowsAll w h before received after → FollowsAll w h before received other → after ≡ other

-- Nothing leads it nowhere.
abbrev pub FollowingLeadsSomewhere : Type 0
FollowingLeadsSomewhere = (w h : ℕ) (before : ZrleFollower) (received : Received) → ((after : ZrleFollower) → Follows w h before received after → ⊥) → ⊥

-- ---- where updates paint

-- A paint lies on a screen of w by h, and so does what is copied. A new size isn't larger.
abbrev pub LiesOn : ℕ → ℕ → Paint → Type 0
LiesOn w h (Put r values) = IsWithin r w h
LiesOn w h (Copy r x y) = IsWithin r w h × IsWithin (record { x = x; y = y; w = r.w; h = r.h }) w h
LiesOn w h (Resized size) = (size.width ≤ w) × (size.height ≤ h)

-- So does each paint of an update that is read.
abbrev pub PaintsLieOnTheScreen : Type 0
PaintsLieOnTheScreen =
    (format : PixelFormat) (w h : ℕ) (before after : ZlibStream) (bytes : List ℕ) (paints : List Paint) → ReadsUpdate format w h before bytes paints after → All (LiesOn w h) paints

-- ---- what an answer brings

-- A follower holds this position as a screen of colours shows it, in its format.
abbrev pub HoldsRight : ZrleFollower → Canvas → ℕ → ℕ → Type 0
HoldsRight follower canvas x y = follower.known.held x y ≡ Some (tint follower.known.format (canvas x y))

-- A follower once it has made these copies.
abbrev pub after_copies : ZrleFollower → List Paint → ZrleFollower
after_copies follower copies = after_update follower copies follower.stream

-- From one state to another a follower came to hold what these rectangles show. What it held right once it had made
-- some copies, it holds so still. Its format is the same, and its stream is in this state.
pub record IsBrought (canvas : Canvas) (copies : List Paint) (rectangles : List Rect) (before after : ZrleFollower) (stream : ZlibStream) : Type 0 where
  pub same_format : after.known.format ≡ before.known.format
  pub stream_is : after.stream ≡ stream
  pub brings : (x y : ℕ) → some_holds rectangles x y ≡ true → HoldsRight after canvas x y
  pub keeps : (x y : ℕ) → HoldsRight (after_copies before copies) canvas x y → HoldsRight after canvas x y

-- An answer in a follower's format, whose stream begins where the follower's stands, is read, and brings its rectangles
-- behind its copies.
abbrev pub AnswersAreFollowed : Type 0
AnswersAreFollowed =
    (w h : ℕ) (style : ZrleStyle) (canvas : Canvas) (copies : List Paint) (sent : Bool) (rectangles : List Rect) (before : ZrleFollower) (bytes : List ℕ) (stream : ZlibStream)
    → w ≤ 4096 → h ≤ 4096 → IsAccepted style.plain.format → AreCopiesOn w h copies → All (IsPart w h) rectangles → length copies + length rectangles < 2 ^ 16
    → before.known.format ≡ style.plain.format → IsAnswer style canvas copies sent rectangles before.stream bytes stream
    → (after : ZrleFollower) × ReadsAnswer w h before bytes after × IsBrought canvas copies rectangles before after stream

-- So a follower holds an area of the screen after an answer that brings its due tiles, where it held the others once it
-- had made the answer's copies.
abbrev pub AreasAreHeld : Type 0
AreasAreHeld =
    (w h : ℕ) (style : ZrleStyle) (us : List Update) (copies : List Paint) (sent : Bool) (area : Rect) (due : ℕ → Bool) (rectangles : List Rect) (before after : ZrleFollower) (bytes : List ℕ) (stream : ZlibStream)
    → w ≤ 4096 → h ≤ 4096 → IsAccepted style.plain.format → AreCopiesOn w h copies → length copies < 2 ^ 15 → BringTheDue w h area due rectangles → area.x + area.w ≤ w → area.y + area.h ≤ h
    → before.known.format ≡ style.plain.format → IsAnswer style (screen us) copies sent rectangles before.stream bytes stream
    → ((t : ℕ) → t < tile_count w h → due t ≡ false → HoldsArea (after_copies before copies).known (common area (tile_rect w h t)) us)
    → Follows w h before (Answer bytes) after
    → HoldsArea after.known area us

-- An answer of one screen, as of a cut, is one of each other that looks the same in its rectangles.
abbrev pub AnswersShowWhatLooksAlike : Type 0
AnswersShowWhatLooksAlike =
    (style : ZrleStyle) (canvas other : Canvas) (copies : List Paint) (sent : Bool) (rectangles : List Rect) (before after : ZlibStream) (bytes : List ℕ) → ((x y : ℕ) → some_holds rectangles x y ≡ true → canvas x y ≡ other x y)
    → IsAnswer style canvas copies sent rectangles before bytes after → IsAnswer style other copies sent rectangles before bytes after

-- ---- answers without ZRLE

-- They are answers, and leave the stream as it is.
abbrev pub OtherAnswersAreAnswers : Type 0
OtherAnswersAreAnswers =
    (style : ZrleStyle) (canvas : Canvas) (copies : List Paint) (sent : Bool) (rectangles : List Rect) (stream : ZlibStream)
    → IsAnswer style canvas copies sent rectangles stream (answer_bytes style.plain canvas copies sent rectangles) stream

-- Where ZRLE may not be used there is no other answer, and the stream stays as it is.
abbrev pub ZrleIsUsedByLeaveAlone : Type 0
ZrleIsUsedByLeaveAlone =
    (style : ZrleStyle) (canvas : Canvas) (copies : List Paint) (sent : Bool) (rectangles : List Rect) (before after : ZlibStream) (bytes : List ℕ) → style.may_zrle ≡ false
    → IsAnswer style canvas copies sent rectangles before bytes after → (bytes ≡ answer_bytes style.plain canvas copies sent rectangles) × (after ≡ before)

-- A message without ZRLE is followed as it is by a follower that doesn't take ZRLE, and leaves the stream as it is.
abbrev pub OtherMessagesAreFollowedAlike : Type 0
OtherMessagesAreFollowedAlike =
    (w h : ℕ) (follower : ZrleFollower) (bytes : List ℕ) (message : ServerMessage) → only_message follower.known.format w h bytes ≡ Some message
    → Follows w h follower (Answer bytes) (record { known = follows w h follower.known (Answer bytes); stream = follower.stream })

-- ---- what a session sends

-- What a session sends its viewer from one moment to another. It takes a format; or it says a message without ZRLE,
-- such as a size; or it answers, in the format that was last taken, and its answers lead one zlib stream from state to
-- state (RFC 6143, 7.6, 7.7.6).
pub data AreSent : (w h : ℕ) (format : PixelFormat) (before : ZlibStream) (received : List Received) (after : ZlibStream) → Type 0 where
  nothing : (w h : ℕ) (format : PixelFormat) (stream : ZlibStream) → AreSent w h format stream [] stream
  takes : (w h : ℕ) (format new : PixelFormat) (before after : ZlibStream) (received : List Received) → AreSent w h new before received after → AreSent w h format before (Format new ∷ received) after
  says : (w h : ℕ) (format : PixelFormat) (before after : ZlibStream) (bytes : List ℕ) (message : ServerMessage) (received : List Received)
      → only_message format w h bytes ≡ Some message → AreSent w h format before received after → AreSent w h format before (Answer bytes ∷ received) after
  answers : (w h : ℕ) (style : ZrleStyle) (canvas : Canvas) (copies : List Paint) (sent : Bool) (rectangles : List Rect) (before between after : ZlibStream) (bytes : List ℕ) (received : List Received)
      → IsAccepted style.plain.format → AreCopiesOn w h copies → All (IsPart w h) rectangles → length copies + length rectangles < 2 ^ 16
      → IsAnswer style canvas copies sent rectangles before bytes between → AreSent w h style.plain.format between received after
      → AreSent w h style.plain.format before (Answer bytes ∷ received) after

-- All of it is followed, and the stream stands where the session leaves it.
abbrev pub SessionsAreFollowed : Type 0
SessionsAreFollowed =
    (w h : ℕ) (before : ZrleFollower) (received : List Received) (stream : ZlibStream) → w ≤ 4096 → h ≤ 4096 → AreSent w h before.known.format before.stream received stream
    → (after : ZrleFollower) × FollowsAll w h before received after × (after.stream ≡ stream)

-- What is followed up to a moment and from it on is followed whole.
abbrev pub FollowingGoesOn : Type 0
FollowingGoesOn =
    (w h : ℕ) (before between after : ZrleFollower) (received others : List Received) → FollowsAll w h before received between → FollowsAll w h between others after → FollowsAll w h before (received ++ others) after

-- ---- one stream

-- The zlib data of rectangles in ZRLE, in any formats and of any sizes, one behind another, each read where the one
-- before it left the stream.
pub data AreReadInOrder : (before : ZlibStream) (zlib_data : List ℕ) (after : ZlibStream) → Type 0 where
  none : (stream : ZlibStream) → AreReadInOrder stream [] stream
  one_more : (format : PixelFormat) (w h : ℕ) (before between after : ZlibStream) (first others : List ℕ) (canvas : Canvas)
      → ReadsZrle format w h before first canvas between → AreReadInOrder between others after → AreReadInOrder before (first ++ others) after

-- From the beginning of a connection on they are one zlib stream (7.7.6): its two first bytes, and then whole blocks,
-- which inflate to what the stream's state tells.
abbrev pub DataAreOneStream : Type 0
DataAreOneStream =
    (zlib_data inflated : List ℕ) → AreReadInOrder None zlib_data (Some inflated) → (blocks : List ℕ) × (zlib_data ≡ 0x78 ∷ 0x01 ∷ blocks) × Inflates [] (bits_of blocks) inflated
