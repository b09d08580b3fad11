-- The viewer that a recorder is (own).
use Rattle.std.specs.Prelude.{◌≡◌, ℕ, ◌≤◌, Bool, true, List, length}
use Rattle.raster.specs.Size.{IsScreenSize}
use Rattle.raster.specs.Update.{Update}
use Rattle.roles.specs.declared.role.Role.{Role}
use Rattle.reflect_core.specs.Sequential.{Begins}
use Rattle.viewer_session.specs.Viewer.{Setup, Viewer, is_greeted, new_viewer, out_bytes}
use Rattle.viewer_session.specs.Acts.{Act, viewer_after}
use Rattle.viewer_server.specs.Serving.{bytes_in}
use Rattle.record_link.specs.Talking.{said_after}
use Rattle.played_session.specs.Pictures.{AreForPictures}
use Rattle.played_session.specs.Played.{AreForRecording}

-- Whatever the session says of its handshake, and whatever kinds of requests the recorder makes: a viewer of which a
-- beginning came of what the recorder says is a viewer for a recording.
abbrev pub RecordersAreForRecording : Type 0
RecordersAreForRecording =
    (s : Setup) (us : List Update) (role : Role) (acts : List Act) (heard : List ℕ) (kinds : List Bool)
    → Begins (bytes_in acts) (said_after kinds heard) → AreForRecording (viewer_after s us (new_viewer role true) acts).entries

-- And where what the recorder has heard of the handshake is the beginning of what its session says, it asks for all of
-- the session's screen.
abbrev pub RecordersAskForAll : Type 0
RecordersAskForAll =
    (s : Setup) → IsScreenSize s.w s.h → length s.name ≤ 255
    → (us : List Update) (role : Role) (acts : List Act)
    → let p : Viewer = viewer_after s us (new_viewer role true) acts in
    is_greeted p ≡ true → (heard : List ℕ) (kinds : List Bool) → Begins heard (out_bytes s p) → Begins (bytes_in acts) (said_after kinds heard)
    → AreForPictures s.w s.h p.entries
