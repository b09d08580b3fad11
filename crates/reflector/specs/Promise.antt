-- What the running program promises of each viewer of a place (own).
use Rattle.std.specs.Prelude.{◌≡◌, Bool, true, List, ◌++◌, Result}
use Rattle.fault.specs.declared.kinds.Fault.{Fault}
use Rattle.raster.specs.Update.{Update}
use Rattle.roles.specs.Allowed.{Input, allowed}
use Rattle.roles.specs.declared.role.Role.{Role}
use Rattle.link.specs.Links.{LinkState}
use Rattle.reflect_core.specs.Sequential.{Begins}
use Rattle.viewer_session.specs.Acts.{Act, viewer_after}
use Rattle.viewer_session.specs.Record.{messages_in}
use Rattle.viewer_session.specs.Viewer.{Setup, new_viewer, out_bytes}
use Rattle.viewer_server.specs.Serving.{AllMayBe, EachAnswerHolds, bytes_in}
use Rattle.reflector.specs.Visits.{At, HasVisits}

-- Over a list of updates a viewer of this role was served whole screens. Each act that was done for it may be done. The
-- bytes that were read are the first that its link took, and its link was given a beginning of its hello and answers.
-- After each answer a follower holds the area asked for, of the screen after some whole number of the updates. These
-- numbers never fall, and a viewer that takes new sizes was told the host's. What was sent of its input is a beginning
-- of what its role allows, the releases included.
pub record IsServedWhole (us : List Update) (s : Setup) (role : Role) (sent_old sent_new : List Input) (left : LinkState) : Type 0 where
  pub acts : List Act
  pub may_be : AllMayBe s us (new_viewer role true) acts
  pub taken : Begins (bytes_in acts) left.taken
  pub given : Begins left.given (out_bytes s (viewer_after s us (new_viewer role true) acts))
  pub holds : EachAnswerHolds s us (viewer_after s us (new_viewer role true) acts)
  pub sent : List Input
  pub took : sent_new ≡ sent_old ++ sent
  pub begins : Begins sent (allowed role (messages_in (viewer_after s us (new_viewer role true) acts).entries) true)

-- Each viewer that the door of a place let in, in turn, was served whole screens, all of them over one list of updates.
-- That list may be any that begins with what the source of the place knows in the end.
abbrev pub KeepsPromise : {D S : Type 0} → (lets_in : D → Bool → D → Type 0) → (sees_off : D → LinkState → Result (Unit {0}) Fault → D → Type 0) → (known : S → List Update) → Setup → Role → (old new : At D S) → Type 0
KeepsPromise {D} {S} lets_in sees_off known s role old new =
    (us : List Update) → Begins (known new.source) us → HasVisits lets_in sees_off (λ source_old source_new sent_old sent_new why left. IsServedWhole us s role sent_old sent_new left) old new
