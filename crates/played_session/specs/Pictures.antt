-- Which pictures a recording shows, wherever in it a player is (own).
use Rattle.std.specs.Prelude.{◌≡◌, ℕ, ◌≤◌, Bool, false, List, [], ◌∷◌, length, take}
use Rattle.pixel_format.specs.PixelFormat.{host_format}
use Rattle.raster.specs.Screen.{LooksLike, whole_screen}
use Rattle.raster.specs.Update.{Update, screen}
use Rattle.rfb_wire.specs.ClientMessage.{ClientMessage, SetPixelFormat, SetEncodings, Ask, Key, Pointer, CutText, LostText}
use Rattle.roles.specs.declared.role.Role.{Role}
use Rattle.reflect_core.specs.Sequential.{Begins}
use Rattle.host_decoder.specs.Hosts.{updates_in_turn}
use Rattle.viewer_session.specs.Record.{Entry, Took, Saw, MadeCut, Began, ToldSize}
use Rattle.viewer_session.specs.Viewer.{Setup, Viewer, new_viewer}
use Rattle.viewer_session.specs.Acts.{Act, viewer_after}
use Rattle.viewer_server.specs.Serving.{AllMayBe}
use Rattle.played_session.specs.ReadAlike.{shown_by}

-- A message of a viewer whose every picture is whole: a pixel format is the host's, a choice of encodings has neither
-- ZRLE nor new sizes, and a request is for all of a screen of w by h.
abbrev pub IsForPictures : ℕ → ℕ → ClientMessage → Type 0
IsForPictures w h (SetPixelFormat format) = format ≡ host_format
IsForPictures w h (SetEncodings choice) = (choice.zrle ≡ false) × (choice.resizes ≡ false)
IsForPictures w h (Ask incremental area) = area ≡ whole_screen w h
IsForPictures w h (Key down key) = Unit {0}
IsForPictures w h (Pointer mask x y) = Unit {0}
IsForPictures w h (CutText text) = Unit {0}
IsForPictures w h (LostText len) = Unit {0}

-- Each message that its session took is such a one.
abbrev pub AreForPictures : ℕ → ℕ → List Entry → Type 0
AreForPictures w h [] = Unit {0}
AreForPictures w h (Took message ∷ es) = IsForPictures w h message × AreForPictures w h es
AreForPictures w h (Saw number ∷ es) = AreForPictures w h es
AreForPictures w h (MadeCut number ∷ es) = AreForPictures w h es
AreForPictures w h (Began area number bytes ∷ es) = AreForPictures w h es
AreForPictures w h (ToldSize size number bytes ∷ es) = AreForPictures w h es

-- Who plays these bytes shows the screen of w by h as it was after the first n of the updates.
abbrev pub ShowsAfter : ℕ → ℕ → List Update → (said : List ℕ) → (n : ℕ) → Type 0
ShowsAfter w h us said n = LooksLike w h (shown_by w h said) (screen (take n us))

-- After the shorter beginning of what is said the screen is shown as it was after some number of the updates, and after
-- the longer one as it was after at least so many.
pub record AreInOrder (w h : ℕ) (us : List Update) (front back : List ℕ) : Type 0 where
  pub earlier : ℕ
  pub later : ℕ
  pub order : earlier ≤ later
  pub known : later ≤ length us
  pub shows_earlier : ShowsAfter w h us front earlier
  pub shows_later : ShowsAfter w h us back later

-- This is so of any two places in what is said after the hello, between messages and in them, to every such viewer.
abbrev pub PlayersNeverGoBack : Type 0
PlayersNeverGoBack =
    (s : Setup) → s.w ≤ 4096 → s.h ≤ 4096
    → (ended : List (List ℕ)) (present : List ℕ) (us : List Update) → Begins us (updates_in_turn s.w s.h ended present)
    → (role : Role) (greet : Bool) (acts : List Act) → AllMayBe s us (new_viewer role greet) acts
    → let p : Viewer = viewer_after s us (new_viewer role greet) acts in
    AreForPictures s.w s.h p.entries
    → (front back : List ℕ) → Begins front back → Begins back p.said_after → AreInOrder s.w s.h us front back
