-- A recording that is played: what it shows of the session that it was (own; the bytes are messages of RFC 6143, 7.6).
use Rattle.std.specs.Prelude.{◌≡◌, ℕ, ◌≤◌, Bool, true, false, List, [], ◌∷◌, ◌++◌, None, length, take}
use Rattle.pixel_format.specs.PixelFormat.{host_format}
use Rattle.byte_reading.specs.Reading.{Spells, rest}
use Rattle.raster.specs.declared.rect.Rect.{Rect}
use Rattle.raster.specs.Screen.{LooksLike, part_of}
use Rattle.raster.specs.Size.{IsScreenSize}
use Rattle.raster.specs.Update.{Update, screen}
use Rattle.rfb_wire.specs.ClientMessage.{ClientMessage, SetPixelFormat, SetEncodings, Ask, Key, Pointer, CutText, LostText}
use Rattle.rfb_wire.specs.Handshake.{host_hello}
use Rattle.roles.specs.declared.role.Role.{Role}
use Rattle.reflect_core.specs.Sequential.{Begins}
use Rattle.host_decoder.specs.Decoder.{host_message}
use Rattle.host_decoder.specs.Hosts.{updates_in_turn}
use Rattle.viewer_session.specs.Record.{Entry, Took, Saw, MadeCut, Began, ToldSize, NumbersUpTo}
use Rattle.viewer_session.specs.Stream.{heard, stream_of}
use Rattle.viewer_session.specs.Viewer.{Setup, Viewer, is_greeted, new_viewer, out_bytes}
use Rattle.viewer_session.specs.Acts.{Act, viewer_after}
use Rattle.viewer_server.specs.Serving.{AllMayBe}
use Rattle.played_session.specs.ReadAlike.{shown_by}

-- ---- whose session can be played

-- By this message a viewer asks for nothing that a decoder of a host doesn't read: a pixel format is the host's, and a
-- choice of encodings has no ZRLE.
abbrev pub IsForRecording : ClientMessage → Type 0
IsForRecording (SetPixelFormat format) = format ≡ host_format
IsForRecording (SetEncodings choice) = choice.zrle ≡ false
IsForRecording (Ask incremental area) = Unit {0}
IsForRecording (Key down key) = Unit {0}
IsForRecording (Pointer mask x y) = Unit {0}
IsForRecording (CutText text) = Unit {0}
IsForRecording (LostText len) = Unit {0}

-- Each message that its session took is such a one.
abbrev pub AreForRecording : List Entry → Type 0
AreForRecording [] = Unit {0}
AreForRecording (Took message ∷ es) = IsForRecording message × AreForRecording es
AreForRecording (Saw number ∷ es) = AreForRecording es
AreForRecording (MadeCut number ∷ es) = AreForRecording es
AreForRecording (Began area number bytes ∷ es) = AreForRecording es
AreForRecording (ToldSize size number bytes ∷ es) = AreForRecording es

-- ---- what a player shows

-- Up to an answer of these bytes, which was begun after these entries, whole messages were said. Who plays them shows
-- the area as it was on the screen after the first n of the updates. No number seen, cut at or answered before is above
-- n.
pub record IsPlayedAt (w h : ℕ) (us : List Update) (said : List ℕ) (area : Rect) (n : ℕ) (bytes : List ℕ) (earlier : List Entry) : Type 0 where
  pub upto : List ℕ
  pub is : upto ≡ stream_of (heard w h us earlier) ++ bytes
  pub begins : Begins upto said
  pub whole : rest (host_message w h) upto ≡ host_message w h
  pub shows : LooksLike area.w area.h (part_of area (shown_by w h upto)) (part_of area (screen (take n us)))
  pub known : n ≤ length us
  pub newest : NumbersUpTo n earlier

-- All that was said after the hello are whole messages, and this is so of each answer.
pub record IsPlayed (s : Setup) (us : List Update) (p : Viewer) : Type 0 where
  pub whole : rest (host_message s.w s.h) p.said_after ≡ host_message s.w s.h
  pub each :
      (later earlier : List Entry) (area : Rect) (n : ℕ) (bytes : List ℕ) → p.entries ≡ later ++ Began area n bytes ∷ earlier
      → IsPlayedAt s.w s.h us p.said_after area n bytes earlier

-- This is so of every viewer for a recording, after every list of acts that may be done for it, where the updates are
-- the first of those that hosts' bytes spell.
abbrev pub RecordingsShowWhatWasSent : Type 0
RecordingsShowWhatWasSent =
    (s : Setup) → s.w ≤ 4096 → s.h ≤ 4096
    → (ended : List (List ℕ)) (present : List ℕ) (us : List Update) → Begins us (updates_in_turn s.w s.h ended present)
    → (role : Role) (greet : Bool) (acts : List Act) → AllMayBe s us (new_viewer role greet) acts
    → let p : Viewer = viewer_after s us (new_viewer role greet) acts in
    AreForRecording p.entries → IsPlayed s us p

-- ---- the hello before it

-- All that a viewer is sent is a whole handshake of a host without a password, of the session's screen and name, and
-- then what is said after the hello.
pub record IsOpened (s : Setup) (p : Viewer) : Type 0 where
  pub hello : List ℕ
  pub spelled : Spells (host_hello None) hello (record { w = s.w; h = s.h; name = s.name })
  pub all : out_bytes s p ≡ hello ++ p.said_after

-- This is so of every viewer whose hello is done.
abbrev pub HellosAreHeard : Type 0
HellosAreHeard =
    (s : Setup) → IsScreenSize s.w s.h → length s.name ≤ 255
    → (us : List Update) (role : Role) (acts : List Act)
    → let p : Viewer = viewer_after s us (new_viewer role true) acts in
    is_greeted p ≡ true → IsOpened s p
