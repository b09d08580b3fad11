-- The pictures that are made of a recording, beside the session that it was (own).
use Rattle.std.specs.Prelude.{◌≡◌, ℕ, ◌≤◌, true, List, [], None, length, take}
use Rattle.raster.specs.Screen.{LooksLike, value_at}
use Rattle.raster.specs.Size.{IsScreenSize}
use Rattle.raster.specs.Update.{Update, screen}
use Rattle.roles.specs.declared.role.Role.{Role}
use Rattle.reflect_core.specs.Sequential.{Begins}
use Rattle.host_decoder.specs.Hosts.{updates_in_turn}
use Rattle.link.specs.Links.{LinkState}
use Rattle.record_link.specs.Linked.{Linked, IsCarried, state_of}
use Rattle.playback.specs.Playing.{IsPlayed, Played}
use Rattle.playback.specs.Playing as playing
use Rattle.recorded_picture.specs.Picture.{Shown}
use Rattle.recorded_picture.specs.Recorded.{ShowsAll}
use Rattle.viewer_session.specs.Acts.{Act, viewer_after}
use Rattle.viewer_session.specs.Viewer.{Setup, Viewer, new_viewer}
use Rattle.viewer_server.specs.Serving.{AllMayBe}
use Rattle.played_session.specs.Recorded.{IsServedOver}

-- A link that has taken and given nothing, as one to a recording has at first.
abbrev pub unused : LinkState
unused = record { taken = []; given = []; failed = 0; ended = 0 }

-- What a player has read are the first bytes of the file that this recorder's link has written, from the file's
-- beginning on; and this is the picture of what it took of them.
pub record IsPictureOf (has_come : ℕ → Type 0) (l : Linked) (p : Played) (picture : Shown) : Type 0 where
  pub plays : IsPlayed has_come p
  pub first : p.key ≡ None
  pub read : Begins p.reel.so_far l.growing.tape.stored
  pub shows : ShowsAll unused (playing.state_of p) picture

-- The picture is as large as the session's screen, and shows it as it was after the first n of the updates.
pub record IsScreenAfter (s : Setup) (us : List Update) (picture : Shown) (n : ℕ) : Type 0 where
  pub wide : picture.width ≡ s.w
  pub high : picture.height ≡ s.h
  pub shows : LooksLike s.w s.h (value_at s.w picture.colours) (screen (take n us))

-- The first picture shows the screen as it was after some number of the updates, and the second as it was after at
-- least so many.
pub record AreScreensInOrder (s : Setup) (us : List Update) (one other : Shown) : Type 0 where
  pub earlier : ℕ
  pub later : ℕ
  pub order : earlier ≤ later
  pub known : later ≤ length us
  pub shows_earlier : IsScreenAfter s us one earlier
  pub shows_later : IsScreenAfter s us other later

-- This is so of any two pictures of a recording, of which no more was taken for the first: of each file whose link
-- carries what it was given (`IsCarried`) and over which a viewer of the session was served.
abbrev pub PicturesAreOfTheSession : (has_come : ℕ → Type 0) → Type 0
PicturesAreOfTheSession has_come =
    (s : Setup) → IsScreenSize s.w s.h → length s.name ≤ 255
    → (ended : List (List ℕ)) (present : List ℕ) (us : List Update) → Begins us (updates_in_turn s.w s.h ended present)
    → (role : Role) (acts : List Act) → AllMayBe s us (new_viewer role true) acts
    → let v : Viewer = viewer_after s us (new_viewer role true) acts in
    (l : Linked) → IsCarried l → IsServedOver s v acts (state_of l)
    → (p q : Played) (one other : Shown) → IsPictureOf has_come l p one → IsPictureOf has_come l q other → length p.taken ≤ length q.taken
    → AreScreensInOrder s us one other
