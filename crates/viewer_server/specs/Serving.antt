-- Serving one viewer: what is done for it, what it is given, and what of its input goes to the host (the steps are
-- those of a schedule; own).
use Rattle.std.specs.Prelude.{◌≡◌, ℕ, ◌+◌, ◌≤◌, ◌<◌, ◌⊎◌, Bool, true, false, is_some, List, [], ◌∷◌, ◌++◌, length, take, Option, Some, None, Result, Ok, Err}
use Rattle.fault.specs.declared.kinds.Fault.{Fault}
use Rattle.fault.specs.declared.kinds.Fault.TheVariants.{LinkEnded, LinkFailed, Gone, QueueFull}
use Rattle.raster.specs.declared.rect.Rect.{Rect}
use Rattle.raster.specs.Update.{Update}
use Rattle.update_encoder.specs.Follower.{follower, HoldsArea}
use Rattle.roles.specs.Allowed.{Input, allowed}
use Rattle.link.specs.Links.{LinkState, HasRisen}
use Rattle.reflect_core.specs.Sequential.{Begins}
use Rattle.viewer_session.specs.Record.{Entry, Took, Saw, MadeCut, Began, ToldSize, NumbersUpTo, before_last, messages_in, received}
use Rattle.viewer_session.specs.Told.{KnowsSize}
use Rattle.viewer_session.specs.Turn.{has_reason}
use Rattle.viewer_session.specs.Chosen.{HoldsAnswer, MayBeChosen}
use Rattle.viewer_session.specs.Acts.{Act, Cutting, Bytes, Turn, Written, Passed, viewer_after}
use Rattle.viewer_session.specs.Viewer.{Setup, Viewer, out_bytes, may_look, viewer_fault}
use Rattle.viewer_session.specs.Session.{HasOnlyLooked, IsBetween}

-- A list of acts has the latest first.

-- A turn cuts exactly where there is reason to. The number of the cut is at least each number that was seen or cut at
-- before. What the session chose of the answer, it may choose.
abbrev pub CutsWell : Setup → List Update → Viewer → (looked : ℕ) → Option Cutting → Type 0
CutsWell s us p looked None = has_reason s.w s.h p.entries looked ≡ false
CutsWell s us p looked (Some cut) =
    (has_reason s.w s.h p.entries looked ≡ true) × (cut.number ≤ length us) × NumbersUpTo cut.number (Saw looked ∷ p.entries)
    × MayBeChosen s (take cut.number us) (Saw looked ∷ p.entries) p.stream cut.chosen

-- An act may be done for the viewer. No bytes are read while an input waits. It has a turn only where all of its bytes
-- are written, its hello is done and it has no fault.
abbrev pub MayBe : Setup → List Update → Viewer → Act → Type 0
MayBe s us p (Bytes marks bytes) = p.waiting ≡ None
MayBe s us p (Turn looked cut) = (may_look s p ≡ true) × (looked ≤ length us) × CutsWell s us p looked cut
MayBe s us p (Written count) = p.written + count ≤ length (out_bytes s p)
MayBe s us p Passed = is_some p.waiting ≡ true

-- Each act may be done after those before it.
abbrev pub AllMayBe : Setup → List Update → Viewer → List Act → Type 0
AllMayBe s us p [] = Unit {0}
AllMayBe s us p (act ∷ acts) = AllMayBe s us p acts × MayBe s us (viewer_after s us p acts) act

-- After the look the source was cut once, with the cut's number, or left alone.
abbrev pub HasCut : {S : Type 0} → (cuts : S → ℕ → S → Type 0) → Option Cutting → (before after : S) → Type 0
HasCut {S} cuts None before after = after ≡ before
HasCut {S} cuts (Some cut) before after = cuts before cut.number after

-- To the source nothing was done but the looks and cuts of the turns. Each turn looks once, with the source's own
-- reply, and where it has a cut, cuts once then, with the cut's own number.
abbrev pub IsShown : {S : Type 0} → (looks cuts : S → ℕ → S → Type 0) → S → List Act → S → Type 0
IsShown {S} looks cuts old [] new = new ≡ old
IsShown {S} looks cuts old (Bytes marks bytes ∷ acts) new = IsShown looks cuts old acts new
IsShown {S} looks cuts old (Turn looked cut ∷ acts) new = (before : S) × (behind : S) × IsShown looks cuts old acts before × looks before looked behind × HasCut cuts cut behind new
IsShown {S} looks cuts old (Written count ∷ acts) new = IsShown looks cuts old acts new
IsShown {S} looks cuts old (Passed ∷ acts) new = IsShown looks cuts old acts new

-- The bytes that came, in order.
abbrev pub bytes_in : List Act → List ℕ
bytes_in [] = []
bytes_in (Bytes marks bytes ∷ acts) = bytes_in acts ++ bytes
bytes_in (Turn looked cut ∷ acts) = bytes_in acts
bytes_in (Written count ∷ acts) = bytes_in acts
bytes_in (Passed ∷ acts) = bytes_in acts

-- A turn was had since the last message was taken.
abbrev pub has_turned : List Entry → Bool
has_turned [] = false
has_turned (Took message ∷ es) = false
has_turned (Saw number ∷ es) = true
has_turned (MadeCut number ∷ es) = has_turned es
has_turned (Began area number bytes ∷ es) = has_turned es
has_turned (ToldSize size number bytes ∷ es) = has_turned es

-- All is done for the viewer: it stands between two messages after its hello, no input waits, a turn was had since the
-- last message, and all bytes of hello and answers were written.
pub record IsDone (s : Setup) (p : Viewer) : Type 0 where
  pub between : IsBetween p
  pub passed : p.waiting ≡ None
  pub turned : has_turned p.entries ≡ true
  pub written : p.written ≡ length (out_bytes s p)

-- The link ended while bytes were unsent; it ended while the viewer wasn't between two messages after its hello; or it
-- failed.
abbrev pub HaltsBy : Fault → Setup → Viewer → (failed_old failed_new : ℕ) → (ended_old ended_new : ℕ) → Type 0
HaltsBy LinkEnded s p failed_old failed_new ended_old ended_new = HasRisen ended_old ended_new × ((p.written < length (out_bytes s p)) ⊎ (IsBetween p → ⊥))
HaltsBy LinkFailed s p failed_old failed_new ended_old ended_new = HasRisen failed_old failed_new
HaltsBy fault s p failed_old failed_new ended_old ended_new = ⊥

abbrev pub LinkHalts : Fault → Setup → Viewer → (old new : LinkState) → Type 0
LinkHalts fault s p old new = HaltsBy fault s p old.failed new.failed old.ended new.ended

-- The sink has refused an input for good.
abbrev pub IsRefused : (may_refuse : Fault → Type 0) → Fault → Type 0
IsRefused may_refuse fault = may_refuse fault × (fault ≡ QueueFull → ⊥)

-- The sink took the first of all inputs and refused the next one for good. That one and the rest were given up.
pub record GivesUp (may_refuse : Fault → Type 0) (fault : Fault) (sent all : List Input) : Type 0 where
  pub refused : IsRefused may_refuse fault
  pub input : Input
  pub rest : List Input
  pub left : all ≡ sent ++ input ∷ rest

-- Serving ended for one of these reasons: the flag was set; the link said that it ended, and all was done; the viewer
-- is at this fault; all that is left of the input was given up at this fault; the link halted; or the source, which was
-- looked at once more, has ended.
abbrev pub EndsServing : {S : Type 0} → (looks : S → ℕ → S → Type 0) → (may_end was_set : Type 0) → (is_given_up : Fault → Type 0) → (behind new : S) → Setup → Viewer → Result (Unit {0}) Fault → (old new : LinkState) → Type 0
EndsServing {S} looks may_end was_set is_given_up behind source s p (Ok done) old new =
    (source ≡ behind) × (new.failed ≡ old.failed) × ((was_set × (new.ended ≡ old.ended)) ⊎ (HasRisen old.ended new.ended × IsDone s p))
EndsServing {S} looks may_end was_set is_given_up behind source s p (Err fault) old new =
    ((source ≡ behind) × ((viewer_fault p ≡ Some fault) ⊎ (is_given_up fault ⊎ LinkHalts fault s p old new))) ⊎ ((fault ≡ Gone) × may_end × HasOnlyLooked looks behind source)

-- All that is allowed of a viewer that has left: first the input of its messages, in order, then the releases.
abbrev pub all_allowed : Viewer → List Input
all_allowed p = allowed p.role (messages_in p.entries) true

-- Why the sink took only a part of all that is allowed: the flag was set; or, where the answer isn't Ok, the sink
-- refused an input for good.
abbrev pub IsHeldBack : (was_set : Type 0) → (may_refuse : Fault → Type 0) → Result (Unit {0}) Fault → (sent all : List Input) → Type 0
IsHeldBack was_set may_refuse (Ok done) sent all = was_set
IsHeldBack was_set may_refuse (Err fault) sent all = was_set ⊎ ((refused : Fault) × GivesUp may_refuse refused sent all)

-- The viewer has left. The sink took a beginning of all that is allowed of it: at least all that its messages before
-- the last bring, and everything unless the flag was set or the sink refused an input for good.
pub record Relays (was_set : Type 0) (may_refuse : Fault → Type 0) (p : Viewer) (answer : Result (Unit {0}) Fault) (sent_old sent_new : List Input) : Type 0 where
  pub sent : List Input
  pub took : sent_new ≡ sent_old ++ sent
  pub begins : Begins sent (all_allowed p)
  pub all_but_last : Begins (allowed p.role (messages_in (before_last p.entries)) false) sent
  pub whole : (sent ≡ all_allowed p) ⊎ IsHeldBack was_set may_refuse answer sent (all_allowed p)

-- After an answer a follower of all answers holds the area asked for. It holds it as the screen is after the first n of
-- these updates, in the format that was taken last before the cut. Where no viewer is answered in ZRLE, a follower that
-- doesn't take ZRLE holds the same.
abbrev pub HoldsEither : Setup → List Update → Rect → ℕ → List ℕ → List Entry → Type 0
HoldsEither s us area n bytes earlier =
    HoldsAnswer s.w s.h us area n bytes earlier × (s.form.zrle ≡ false → HoldsArea (follower s.w s.h (received (Began area n bytes ∷ earlier))) area (take n us))

-- This holds after each answer; n is at least every number that was seen or cut at before; and a viewer that takes new
-- sizes was told that of the host's screen after these n.
abbrev pub EachAnswerHolds : Setup → List Update → Viewer → Type 0
EachAnswerHolds s us p =
    (later earlier : List Entry) (area : Rect) (n : ℕ) (bytes : List ℕ) → p.entries ≡ later ++ Began area n bytes ∷ earlier
    → (n ≤ length us) × NumbersUpTo n earlier × HoldsEither s us area n bytes earlier × KnowsSize s.w s.h s.host (take n us) earlier

-- A viewer was served. Each act that was done for it may be done. All bytes that were taken are read, except those
-- after a message whose input waits. Of its hello and answers it was given the first bytes, as many as count as
-- written. A follower of its answers holds what was asked for. The sink took the viewer's input, up to the first that
-- it refused for good, if there is one.
pub record Serves {S : Type 0} (looks cuts : S → ℕ → S → Type 0) (may_end was_set : Type 0) (may_refuse : Fault → Type 0) (source_old source_new : S) (us : List Update) (s : Setup) (p : Viewer)
    (sent_old sent_new : List Input) (answer : Result (Unit {0}) Fault) (old new : LinkState) : Type 0 where
  pub acts : List Act
  pub behind : S
  pub left : List ℕ
  pub may_be : AllMayBe s us p acts
  pub shown : IsShown looks cuts source_old acts behind
  pub taken : new.taken ≡ old.taken ++ (bytes_in acts ++ left)
  pub unread : (left ≡ []) ⊎ (is_some (viewer_after s us p acts).waiting ≡ true)
  pub given : new.given ≡ old.given ++ take (viewer_after s us p acts).written (out_bytes s (viewer_after s us p acts))
  pub holds : s.w ≤ 4096 → s.h ≤ 4096 → EachAnswerHolds s us (viewer_after s us p acts)
  pub relays : Relays was_set may_refuse (viewer_after s us p acts) answer sent_old sent_new
  pub ends : EndsServing looks may_end was_set (λ fault. GivesUp may_refuse fault relays.sent (all_allowed (viewer_after s us p acts))) behind source_new s (viewer_after s us p acts) answer old new
