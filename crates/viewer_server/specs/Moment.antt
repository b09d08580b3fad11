-- What is true of a visit at every moment: what was done for its viewer so far, and what its link, its source and its
-- sink have of it by now (own).
use Rattle.std.specs.Prelude.{◌≡◌, ℕ, ◌≤◌, ◌⊎◌, Bool, true, false, is_some, List, [], ◌++◌, take}
use Rattle.raster.specs.Update.{Update}
use Rattle.roles.specs.Allowed.{Input}
use Rattle.roles.specs.Held.{left_in}
use Rattle.roles.specs.declared.role.Role.{Role}
use Rattle.link.specs.Links.{LinkState}
use Rattle.reflect_core.specs.Sequential.{Begins}
use Rattle.viewer_session.specs.Record.{NumbersUpTo}
use Rattle.viewer_session.specs.Viewer.{Setup, Viewer, new_viewer, out_bytes}
use Rattle.viewer_session.specs.Session.{State, Stands, HasCounted, HasOnlyLooked, IsBetween, without_input}
use Rattle.viewer_session.specs.Acts.{Act, HasPassed, viewer_after, waiting_list}
use Rattle.viewer_server.specs.Serving.{AllMayBe, EachAnswerHolds, IsShown, all_allowed, bytes_in, has_turned}
use Rattle.viewer_server.specs.Steps.{Unpassed, WaitsIfLeft}

-- ---- what is promised

-- A viewer is served, or was. Each act that was done for it may be done. All bytes that were taken are read, except
-- those after a message whose input waits. Of its hello and answers it was given the first bytes, as many as count as
-- written. A follower of its answers holds what was asked for. To the source nothing was done but the looks and cuts of
-- the turns, and perhaps one more look, where the source has ended. What the sink took is a beginning of all that is
-- allowed of a viewer that leaves now.
pub record ServesSoFar {S : Type 0} (looks cuts : S → ℕ → S → Type 0) (source_old source_new : S) (us : List Update) (s : Setup) (p : Viewer) (sent_old sent_new : List Input) (old new : LinkState) : Type 0 where
  pub acts : List Act
  pub behind : S
  pub left : List ℕ
  pub sent : List Input
  pub may_be : AllMayBe s us p acts
  pub shown : IsShown looks cuts source_old acts behind
  pub seen : (source_new ≡ behind) ⊎ HasOnlyLooked looks behind source_new
  pub taken : new.taken ≡ old.taken ++ (bytes_in acts ++ left)
  pub unread : (left ≡ []) ⊎ (is_some (viewer_after s us p acts).waiting ≡ true)
  pub given : new.given ≡ old.given ++ take (viewer_after s us p acts).written (out_bytes s (viewer_after s us p acts))
  pub holds : s.w ≤ 4096 → s.h ≤ 4096 → EachAnswerHolds s us (viewer_after s us p acts)
  pub took : sent_new ≡ sent_old ++ sent
  pub begins : Begins sent (all_allowed (viewer_after s us p acts))

-- ---- what a visit keeps

-- Where a turn was offered while nothing was unsent, and the viewer is between two messages, the viewer has had a turn
-- since its last message.
abbrev pub IsTurned : Bool → Setup → Viewer → Type 0
IsTurned true s p = IsBetween p → has_turned p.entries ≡ true
IsTurned false s p = Unit {0}

-- A viewer is served.
pub record IsServing {S : Type 0} (looks cuts : S → ℕ → S → Type 0) (source_old source_new : S) (us : List Update) (most : ℕ) (s : Setup) (p : Viewer) (st : State) (box : Unpassed) (sent_old sent_new : List Input) (is_offered : Bool) (old new : LinkState) : Type 0 where
  pub begun : (role : Role) × (greet : Bool) × (p ≡ new_viewer role greet)
  pub acts : List Act
  pub sent : List Input
  pub may_be : AllMayBe s us p acts
  pub shown : IsShown looks cuts source_old acts source_new
  pub taken : new.taken ≡ old.taken ++ (bytes_in acts ++ box.unread)
  pub given : new.given ≡ old.given ++ take (viewer_after s us p acts).written (out_bytes s (viewer_after s us p acts))
  pub stands : Stands s st (without_input (viewer_after s us p acts))
  pub waiting : (viewer_after s us p acts).waiting ≡ box.waiting
  pub took : sent_new ≡ sent_old ++ sent
  pub passed : HasPassed (viewer_after s us p acts) sent
  pub numbers : NumbersUpTo most (viewer_after s us p acts).entries
  pub counted : HasCounted st us
  pub turned : IsTurned is_offered s (viewer_after s us p acts)

-- A viewer was served, and is served no longer. All that is allowed of it is what the sink took, then the input that
-- waits, then the releases.
pub record IsLeft {S : Type 0} (looks cuts : S → ℕ → S → Type 0) (source_old source_new : S) (us : List Update) (s : Setup) (p : Viewer) (st : State) (box : Unpassed) (sent_old sent_new : List Input) (old new : LinkState) : Type 0 where
  pub acts : List Act
  pub behind : S
  pub left : List ℕ
  pub sent : List Input
  pub may_be : AllMayBe s us p acts
  pub shown : IsShown looks cuts source_old acts behind
  pub seen : (source_new ≡ behind) ⊎ HasOnlyLooked looks behind source_new
  pub taken : new.taken ≡ old.taken ++ (bytes_in acts ++ left)
  pub unread : (left ≡ []) ⊎ (is_some (viewer_after s us p acts).waiting ≡ true)
  pub given : new.given ≡ old.given ++ take (viewer_after s us p acts).written (out_bytes s (viewer_after s us p acts))
  pub holds : s.w ≤ 4096 → s.h ≤ 4096 → EachAnswerHolds s us (viewer_after s us p acts)
  pub took : sent_new ≡ sent_old ++ sent
  pub all : all_allowed (viewer_after s us p acts) ≡ sent ++ (waiting_list box.waiting ++ left_in st.held)

-- A viewer is served, and bytes are left unread only while an input waits.
abbrev pub IsUnderWay : {S : Type 0} → (looks cuts : S → ℕ → S → Type 0) → (source_old source_new : S) → List Update → (most : ℕ) → Setup → Viewer → State → Unpassed → (sent_old sent_new : List Input) → (is_offered : Bool) → (old new : LinkState) → Type 0
IsUnderWay {S} looks cuts a b us most s p st box x y is_offered old now = WaitsIfLeft box × IsServing looks cuts a b us most s p st box x y is_offered old now

-- A viewer is served (true), or was.
abbrev pub IsVisited : Bool → {S : Type 0} → (looks cuts : S → ℕ → S → Type 0) → (source_old source_new : S) → List Update → (most : ℕ) → Setup → Viewer → State → Unpassed → (sent_old sent_new : List Input) → (old new : LinkState) → Type 0
IsVisited true {S} looks cuts a b us most s p st box x y old now = IsUnderWay looks cuts a b us most s p st box x y false old now
IsVisited false {S} looks cuts a b us most s p st box x y old now = IsLeft looks cuts a b us s p st box x y old now
