-- All that a session's recorder has kept of it, played (own).
use Rattle.std.specs.Prelude.{ℕ, ◌≤◌, true, List, ◌++◌, None, length}
use Rattle.byte_reading.specs.Reading.{Spells}
use Rattle.raster.specs.Size.{IsScreenSize}
use Rattle.raster.specs.Update.{Update}
use Rattle.rfb_wire.specs.Handshake.{Joined, host_hello}
use Rattle.roles.specs.declared.role.Role.{Role}
use Rattle.reflect_core.specs.Sequential.{Begins}
use Rattle.host_decoder.specs.Hosts.{updates_in_turn}
use Rattle.link.specs.Links.{LinkState}
use Rattle.viewer_session.specs.Viewer.{Setup, Viewer, new_viewer, out_bytes}
use Rattle.viewer_session.specs.Acts.{Act, viewer_after}
use Rattle.viewer_server.specs.Serving.{AllMayBe, bytes_in}
use Rattle.record_link.specs.Growing.{recorded_in}
use Rattle.record_link.specs.Linked.{Linked, IsCarried, bytes_of, state_of}
use Rattle.played_session.specs.Pictures.{AreInOrder}

-- The session's viewer, for which these acts were done, was served over a link to a recorder: the bytes that were read
-- are the first that the link took, and what the link was given is a beginning of the hello and the answers.
pub record IsServedOver (s : Setup) (p : Viewer) (acts : List Act) (link : LinkState) : Type 0 where
  pub taken : Begins (bytes_in acts) link.taken
  pub given : Begins link.given (out_bytes s p)

-- Of any two places in what was recorded, behind its handshake: at the first all of the screen is shown as it was after
-- some number of the updates, and at the second as it was after at least so many.
abbrev pub IsPlayedInOrder : List Update → (recorded : List ℕ) → Type 0
IsPlayedInOrder us recorded =
    (hello front back : List ℕ) (joined : Joined) → Spells (host_hello None) hello joined → Begins front back → Begins (hello ++ back) recorded
    → AreInOrder joined.w joined.h us front back

-- This is so of all that a recorder has kept of a session, at every moment: of each link that carries what it was given
-- (`IsCarried`) and over which a viewer of the session was served.
abbrev pub RecordersKeepWhatWasShown : Type 0
RecordersKeepWhatWasShown =
    (s : Setup) → IsScreenSize s.w s.h → length s.name ≤ 255
    → (ended : List (List ℕ)) (present : List ℕ) (us : List Update) → Begins us (updates_in_turn s.w s.h ended present)
    → (role : Role) (acts : List Act) → AllMayBe s us (new_viewer role true) acts
    → let p : Viewer = viewer_after s us (new_viewer role true) acts in
    (l : Linked) → IsCarried l → IsServedOver s p acts (state_of l) → IsPlayedInOrder us (bytes_of (recorded_in l.growing))
