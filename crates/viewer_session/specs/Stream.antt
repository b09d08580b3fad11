-- What comes to a viewer after its hello, and a viewer that reads it byte by byte (RFC 6143, 7.6).
use Rattle.std.specs.Prelude.{◌≡◌, ℕ, nat_lt, if◌then◌else◌, List, [], ◌∷◌, ◌++◌, take, Option, Some, None}
use Rattle.pixel_format.specs.PixelFormat.{PixelFormat, host_format}
use Rattle.byte_reading.specs.Reading.{Reading, Done, Faulty, Want, step, Spells}
use Rattle.raster.specs.Update.{Paint, Resized, Update, bells, last_text, NumberedText}
use Rattle.rfb_wire.specs.ClientMessage.{SetPixelFormat}
use Rattle.rfb_wire.specs.ServerMessage.{ServerMessage, FramebufferUpdate, Bell, ServerCutText, server_message}
use Rattle.update_encoder.specs.Follower.{Follower, follower, unknown, after_message}
use Rattle.viewer_session.specs.Record.{Entry, Took, Saw, MadeCut, Began, ToldSize, format_of, received}
use Rattle.viewer_session.specs.Turn.{bell_at, text_at, news_since}

-- What comes to it, in the order of its session: a pixel format, where its session took one, and the bytes that the
-- session sends.
pub data Heard : Type 0 where
  Format : PixelFormat → Heard
  Bytes : List ℕ → Heard

-- What a cut of these updates sends before an answer: a Bell where Bells have become more since the cut before it, and
-- the last text where that is newer.
abbrev pub news_at : List Update → Option ℕ → List ℕ
news_at us last = bell_at us last ++ text_at us last

-- What comes of a record, where these are the updates put; each cut is one of the first of them.
abbrev pub heard : ℕ → ℕ → List Update → List Entry → List Heard
heard w h us [] = []
heard w h us (Took (SetPixelFormat format) ∷ es) = heard w h us es ++ Format format ∷ []
heard w h us (Took message ∷ es) = heard w h us es
heard w h us (Saw number ∷ es) = heard w h us es
heard w h us (MadeCut number ∷ es) = heard w h us es ++ Bytes (news_at (take number us) (news_since w h es)) ∷ []
heard w h us (Began area number bytes ∷ es) = heard w h us es ++ Bytes bytes ∷ []
heard w h us (ToldSize size number bytes ∷ es) = heard w h us es ++ Bytes bytes ∷ []

-- The stream: the bytes among what comes.
abbrev pub stream_of : List Heard → List ℕ
stream_of [] = []
stream_of (Format format ∷ hs) = stream_of hs
stream_of (Bytes bytes ∷ hs) = bytes ++ stream_of hs

-- ---- a viewer that reads the stream

-- What the viewer holds so far as a follower, the messages that it has read whole, in order, and how the next one goes
-- on.
pub record Listener : Type 0 where
  pub follower : Follower
  pub messages : List ServerMessage
  pub reading : Reading ServerMessage

-- It has read these messages whole, and is at the beginning of the next.
abbrev pub between : ℕ → ℕ → Follower → List ServerMessage → Listener
between w h f messages = record { follower = f; messages = messages; reading = server_message f.format w h }

-- A whole message is followed as it ends. A fault is final.
abbrev pub after_step : ℕ → ℕ → Listener → Reading ServerMessage → Listener
after_step w h l (Done message) =
    between w h (record { format = l.follower.format; held = after_message l.follower.held (Some message) }) (l.messages ++ message ∷ [])
after_step w h l (Faulty fault) = record l { reading = Faulty fault }
after_step w h l (Want more) = record l { reading = Want more }

-- Bytes are read, one after another.
abbrev pub hears_bytes : ℕ → ℕ → Listener → List ℕ → Listener
hears_bytes w h l [] = l
hears_bytes w h l (b ∷ bs) = hears_bytes w h (after_step w h l (step l.reading b)) bs

-- A change of format makes all that is held unknown. The messages after it are read in the new format.
abbrev pub hears : ℕ → ℕ → Listener → Heard → Listener
hears w h l (Format format) = between w h (record { format = format; held = unknown }) l.messages
hears w h l (Bytes bytes) = hears_bytes w h l bytes

-- All of these are heard, in order.
abbrev pub listener_from : ℕ → ℕ → Listener → List Heard → Listener
listener_from w h l [] = l
listener_from w h l (x ∷ xs) = listener_from w h (hears w h l x) xs

-- A viewer of a screen of w by h, from the end of its hello, after all of these.
abbrev pub listener : ℕ → ℕ → List Heard → Listener
listener w h xs = listener_from w h (between w h (record { format = host_format; held = unknown }) []) xs

-- ---- what it reads

-- The Bell of a cut, as a message.
abbrev pub bell_told : List Update → Option ℕ → List ServerMessage
bell_told us None = []
bell_told us (Some number) = if nat_lt (bells (take number us)) (bells us) then Bell ∷ [] else []

-- A text, where it is newer than a cut of this number.
abbrev pub newer_told : ℕ → Option NumberedText → List ServerMessage
newer_told number None = []
newer_told number (Some last) = if nat_lt number last.number then ServerCutText last.text ∷ [] else []

-- The last text, where it is newer than the cut before.
abbrev pub text_told : List Update → Option ℕ → List ServerMessage
text_told us None = []
text_told us (Some number) = newer_told number (last_text us)

-- These are the messages that a record comes to: the Bells and texts of its cuts, for each answer the one
-- FramebufferUpdate that the answer's bytes are in the format last taken before the cut, and for each size that was
-- told the FramebufferUpdate that tells it.
abbrev pub AreTold : ℕ → ℕ → List Update → List Entry → List ServerMessage → Type 0
AreTold w h us [] messages = messages ≡ []
AreTold w h us (Took message ∷ es) messages = AreTold w h us es messages
AreTold w h us (Saw number ∷ es) messages = AreTold w h us es messages
AreTold w h us (MadeCut number ∷ es) messages =
    (before : List ServerMessage) × AreTold w h us es before
    × (messages ≡ (before ++ bell_told (take number us) (news_since w h es)) ++ text_told (take number us) (news_since w h es))
AreTold w h us (Began area number bytes ∷ es) messages =
    (before : List ServerMessage) × (paints : List Paint) × AreTold w h us es before × Spells (server_message (format_of es) w h) bytes (FramebufferUpdate paints)
    × (messages ≡ before ++ FramebufferUpdate paints ∷ [])
AreTold w h us (ToldSize size number bytes ∷ es) messages =
    (before : List ServerMessage) × AreTold w h us es before × Spells (server_message (format_of es) w h) bytes (FramebufferUpdate (Resized size ∷ []))
    × (messages ≡ before ++ FramebufferUpdate (Resized size ∷ []) ∷ [])

-- A viewer that reads what comes of a record reads exactly these messages, follows exactly what a follower of the
-- answers does, and then stands between two messages.
abbrev pub IsHeard : ℕ → ℕ → List Update → List Entry → Type 0
IsHeard w h us es =
    (messages : List ServerMessage) × AreTold w h us es messages × (listener w h (heard w h us es) ≡ between w h (follower w h (received es)) messages)
