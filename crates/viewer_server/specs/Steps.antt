-- The steps of serving one viewer, on the way.
use Rattle.std.specs.Prelude.{◌≡◌, ℕ, ◌≤◌, ◌<◌, ◌⊎◌, Bool, true, false, is_some, List, [], ◌∷◌, ◌++◌, length, take, drop, Option, Some, None, Result, Ok, Err}
use Rattle.fault.specs.declared.kinds.Fault.{Fault}
use Rattle.fault.specs.declared.kinds.Fault.TheVariants.{Gone}
use Rattle.raster.specs.Update.{Update}
use Rattle.roles.specs.Allowed.{Input}
use Rattle.link.specs.declared.link.Took.{Took}
use Rattle.link.specs.declared.link.Took.TheVariants as took
use Rattle.link.specs.Links.{LinkState, HasRisen, with_end, with_failure}
use Rattle.reflect_core.specs.Sequential.{Begins}
use Rattle.viewer_session.specs.Viewer.{Setup, Viewer, out_bytes, after_bytes}
use Rattle.viewer_session.specs.Session.{State, Stands, HasOnlyLooked, Turns, HasCounted, IsBetween, after_writing, fault_in, is_ready, with_marks, without_input}
use Rattle.viewer_session.specs.Acts.{Act, HasPassed, viewer_after, waiting_list}
use Rattle.viewer_server.specs.Serving.{AllMayBe, IsShown, bytes_in, EachAnswerHolds, EndsServing, GivesUp, IsRefused, LinkHalts}
use Rattle.viewer_server.specs.declared.breaks.Break.{Break}
use Rattle.viewer_server.specs.declared.breaks.Break.TheVariants.{At, Refused}

-- What has come from a viewer and isn't passed on yet: bytes that aren't read, and an input that the sink hasn't taken.
pub record Unpassed : Type 0 where
  pub unread : List ℕ
  pub waiting : Option Input

-- Nothing is to be passed on.
abbrev pub all_passed : Unpassed
all_passed = record { unread = []; waiting = None }

-- Bytes are left unread only while an input waits.
abbrev pub WaitsIfLeft : Unpassed → Type 0
WaitsIfLeft box = (box.unread ≡ []) ⊎ (is_some box.waiting ≡ true)

-- The sink is full and the input still waits; the sink took the input, if one waited; or it refused the input for good.
abbrev pub Passes : (may_refuse : Fault → Type 0) → Result Bool Fault → (before after : Unpassed) → (sent_old sent_new : List Input) → Type 0
Passes may_refuse (Ok true) before after sent_old sent_new = (is_some before.waiting ≡ true) × (after ≡ before) × (sent_new ≡ sent_old)
Passes may_refuse (Ok false) before after sent_old sent_new = (after ≡ record before { waiting = None }) × (sent_new ≡ sent_old ++ waiting_list before.waiting)
Passes may_refuse (Err fault) before after sent_old sent_new = (is_some before.waiting ≡ true) × (after ≡ before) × (sent_new ≡ sent_old) × IsRefused may_refuse fault

-- The session stands for the viewer after these bytes, except for the input that waits then, which is `next`.
pub record ReadsTo (s : Setup) (p : Viewer) (st : State) (marks : List Bool) (bytes : List ℕ) (next : Option Input) : Type 0 where
  pub stands : Stands s st (without_input (after_bytes (with_marks marks p) bytes))
  pub waiting : (after_bytes (with_marks marks p) bytes).waiting ≡ next

-- The unread bytes were read: all of them, or the first ones, up to an input that waits now.
pub record Reads (old new : State) (before after : Unpassed) : Type 0 where
  pub marks : List Bool
  pub bytes : List ℕ
  pub none : before.waiting ≡ None
  pub unread : before.unread ≡ bytes ++ after.unread
  pub all : WaitsIfLeft after
  pub reads : (s : Setup) (p : Viewer) → Stands s old p → ReadsTo s p new marks bytes after.waiting

-- The unread bytes were read as in Reads, or nothing was read.
abbrev pub ReadsIfAny : (old new : State) → (before after : Unpassed) → Type 0
ReadsIfAny old new before after = ((new ≡ old) × (after ≡ before)) ⊎ Reads old new before after

-- The input was passed on, and bytes were read after it, perhaps up to a fault of the session; or the sink refused the
-- input for good.
abbrev pub GoesOn : (may_refuse : Fault → Type 0) → Result Bool Break → (old new : State) → (before after : Unpassed) → (sent_old sent_new : List Input) → Type 0
GoesOn may_refuse (Ok is_full) old new before after sent_old sent_new = (mid : Unpassed) × Passes may_refuse (Ok is_full) before mid sent_old sent_new × ReadsIfAny old new mid after
GoesOn may_refuse (Err (At fault)) old new before after sent_old sent_new =
    (mid : Unpassed) × Passes may_refuse (Ok false) before mid sent_old sent_new × Reads old new mid after × (fault_in new ≡ Some fault)
GoesOn may_refuse (Err (Refused fault)) old new before after sent_old sent_new = Passes may_refuse (Err fault) before after sent_old sent_new × (new ≡ old)

-- What filling the inbox from the link came to.
abbrev pub FillsAs : Took → (after : Unpassed) → (old new : LinkState) → Type 0
FillsAs (took.Bytes count) after old new = (0 < length after.unread) × (after.waiting ≡ None) × (new ≡ record old { taken = old.taken ++ after.unread })
FillsAs took.Nothing after old new = (after ≡ all_passed) × (new ≡ old)
FillsAs took.End after old new = (after ≡ all_passed) × (new ≡ with_end old)
FillsAs took.Failed after old new = (after ≡ all_passed) × (new ≡ with_failure old)

-- This many of the unsent bytes were given.
pub record Says (before after : State) (old new : LinkState) : Type 0 where
  pub count : ℕ
  pub within : count ≤ length before.unsent
  pub given : new.given ≡ old.given ++ take count before.unsent
  pub taken : new.taken ≡ old.taken
  pub unsent : after.unsent ≡ drop count before.unsent
  pub size : (after.width ≡ before.width) × (after.height ≡ before.height)
  pub counted : (us : List Update) → HasCounted before us → HasCounted after us
  pub stands : (s : Setup) (p : Viewer) → Stands s before p → Stands s after (after_writing count p)

-- How giving ended: without a fault of the link, or as the link halted.
abbrev pub SaysNoMore : Result (Unit {0}) Fault → State → (old new : LinkState) → Type 0
SaysNoMore (Ok done) st old new = (new.failed ≡ old.failed) × (new.ended ≡ old.ended)
SaysNoMore (Err fault) st old new = (s : Setup) (p : Viewer) → Stands s st p → LinkHalts fault s p old new

-- Where no bytes were unsent the session had a turn; otherwise nothing changed; or the source has ended.
abbrev pub Offers : {S : Type 0} → (looks cuts : S → ℕ → S → Type 0) → Type 0 → (old new : S) → (before after : State) → List Update → (least most : ℕ) → Result Bool Fault → Type 0
Offers {S} looks cuts may_end old new before after us least most (Ok true) =
    (length before.unsent ≡ 0) × (is_ready before ≡ false → (after ≡ before) × (new ≡ old) × (most ≡ least)) × (is_ready before ≡ true → Turns looks cuts old new before after us least most)
Offers {S} looks cuts may_end old new before after us least most (Ok false) = (0 < length before.unsent) × (after ≡ before) × (new ≡ old) × (most ≡ least)
Offers {S} looks cuts may_end old new before after us least most (Err fault) = (fault ≡ Gone) × may_end × (after ≡ before) × HasOnlyLooked looks old new

-- These bytes came, if any, and the session read them.
abbrev pub HasHeard : List ℕ → (old new : State) → Unpassed → Type 0
HasHeard [] old new after = (new ≡ old) × (after ≡ all_passed)
HasHeard (b ∷ bs) old new after = Reads old new (record { unread = b ∷ bs; waiting = None }) after

-- What taking the bytes came to: more may come; the link said that it ended, between two messages with nothing unsent;
-- the session is at this fault; or the link halted.
abbrev pub HeardSo : Result Bool Fault → List ℕ → State → (old new : LinkState) → Type 0
HeardSo (Ok true) piece st old new = (new.failed ≡ old.failed) × (new.ended ≡ old.ended)
HeardSo (Ok false) piece st old new = (piece ≡ []) × HasRisen old.ended new.ended × (new.failed ≡ old.failed) × (length st.unsent ≡ 0) × ((s : Setup) (p : Viewer) → Stands s st p → IsBetween p)
HeardSo (Err fault) piece st old new = ((fault_in st ≡ Some fault) × (new.failed ≡ old.failed) × (new.ended ≡ old.ended)) ⊎ ((piece ≡ []) × ((s : Setup) (p : Viewer) → Stands s st p → LinkHalts fault s p old new))

-- Bytes were taken, if any had come, and the session read them.
pub record Hears (answer : Result Bool Fault) (before after : State) (box : Unpassed) (old new : LinkState) : Type 0 where
  pub piece : List ℕ
  pub taken : new.taken ≡ old.taken ++ piece
  pub given : new.given ≡ old.given
  pub heard : HasHeard piece before after box
  pub so : HeardSo answer piece after old new

-- ---- all of them

-- How serving ended. Where the sink was the reason, it has refused the waiting input for good.
abbrev pub EndsSo : {S : Type 0} → (looks : S → ℕ → S → Type 0) → (may_end was_set : Type 0) → (may_refuse : Fault → Type 0) → (behind new : S) → Setup → Viewer → Unpassed → Result (Unit {0}) Break → (old new : LinkState) → Type 0
EndsSo {S} looks may_end was_set may_refuse behind source s p box (Ok done) old new = EndsServing looks may_end was_set (λ fault. ⊥) behind source s p (Ok done) old new
EndsSo {S} looks may_end was_set may_refuse behind source s p box (Err (At fault)) old new = EndsServing looks may_end was_set (λ fault. ⊥) behind source s p (Err fault) old new
EndsSo {S} looks may_end was_set may_refuse behind source s p box (Err (Refused fault)) old new = (source ≡ behind) × IsRefused may_refuse fault × (is_some box.waiting ≡ true)

-- A viewer was served until it left.
pub record HasServed {S : Type 0} (looks cuts : S → ℕ → S → Type 0) (may_end was_set : Type 0) (may_refuse : Fault → Type 0) (source_old source_new : S) (us : List Update) (s : Setup) (p : Viewer) (st : State)
    (box : Unpassed) (sent_old sent_new : List Input) (answer : Result (Unit {0}) Break) (old new : LinkState) : Type 0 where
  pub acts : List Act
  pub behind : S
  pub sent : List Input
  pub may_be : AllMayBe s us p acts
  pub shown : IsShown looks cuts source_old acts behind
  pub taken : new.taken ≡ old.taken ++ (bytes_in acts ++ box.unread)
  pub unread : WaitsIfLeft box
  pub given : new.given ≡ old.given ++ take (viewer_after s us p acts).written (out_bytes s (viewer_after s us p acts))
  pub stands : Stands s st (without_input (viewer_after s us p acts))
  pub waiting : (viewer_after s us p acts).waiting ≡ box.waiting
  pub took : sent_new ≡ sent_old ++ sent
  pub passed : HasPassed (viewer_after s us p acts) sent
  pub holds : s.w ≤ 4096 → s.h ≤ 4096 → EachAnswerHolds s us (viewer_after s us p acts)
  pub ends : EndsSo looks may_end was_set may_refuse behind source_new s (viewer_after s us p acts) box answer old new

-- How leaving ends: the sink took all, the flag was set, or the sink refused an input for good.
abbrev pub LeavesBy : (was_set : Type 0) → (may_refuse : Fault → Type 0) → Result (Unit {0}) Fault → (sent all : List Input) → Type 0
LeavesBy was_set may_refuse (Ok done) sent all = (sent ≡ all) ⊎ was_set
LeavesBy was_set may_refuse (Err fault) sent all = GivesUp may_refuse fault sent all

-- The sink took the first of these inputs, and leaving ended.
pub record Leaves (was_set : Type 0) (may_refuse : Fault → Type 0) (all : List Input) (sent_old sent_new : List Input) (answer : Result (Unit {0}) Fault) : Type 0 where
  pub sent : List Input
  pub took : sent_new ≡ sent_old ++ sent
  pub begins : Begins sent all
  pub why : LeavesBy was_set may_refuse answer sent all
