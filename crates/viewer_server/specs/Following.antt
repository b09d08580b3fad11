-- What a follower of a served viewer's answers holds (own).
use Rattle.std.specs.Prelude.{◌≤◌, Bool, List}
use Rattle.raster.specs.Update.{Update}
use Rattle.roles.specs.declared.role.Role.{Role}
use Rattle.viewer_session.specs.Viewer.{Setup, new_viewer}
use Rattle.viewer_session.specs.Acts.{Act, viewer_after}
use Rattle.viewer_server.specs.Serving.{AllMayBe, EachAnswerHolds}

-- EachAnswerHolds is true of every viewer, after every list of acts that may be done for it.
abbrev pub HoldsAfterEachAnswer : Type 0
HoldsAfterEachAnswer =
    (s : Setup) → s.w ≤ 4096 → s.h ≤ 4096
    → (us : List Update) (role : Role) (greet : Bool) (acts : List Act) → AllMayBe s us (new_viewer role greet) acts → EachAnswerHolds s us (viewer_after s us (new_viewer role greet) acts)
