-- A reflector as the code keeps it, and the world of the definitions that it stands for.
use Rattle.std.specs.Prelude.{◌≡◌, ℕ, ◌^◌, ◌⊎◌, Bool, true, false, if◌then◌else◌, List, [], ◌∷◌, ◌++◌, length, map, is_some, slice_get, slice_index_or, drop, take, Option, Some, None, ◌≤◌}
use Rattle.fault.specs.declared.kinds.Fault.{Fault}
use Rattle.fault.specs.declared.kinds.Fault.TheVariants.{Memory, NumbersOut}
use Rattle.raster.specs.Screen.{opening}
use Rattle.raster.specs.Size.{IsScreenSize}
use Rattle.raster.specs.Update.{Update}
use Rattle.joined_runs.specs.declared.rect_form.RectForm.{RectForm}
use Rattle.painter.specs.Same.{AreSameFrom}
use Rattle.reflect_core.specs.Plain.{Plain}
use Rattle.roles.specs.Allowed.{Input}
use Rattle.roles.specs.Held.{left_in}
use Rattle.viewer_session.specs.declared.form.AnswerForm.{AnswerForm}
use Rattle.viewer_session.specs.Acts.{waiting_list}
use Rattle.viewer_session.specs.Session.{HasCounted, IsFeeding, State, fault_in, Stands, StandsBut, at_rest, is_ready, after_writing, with_marks, without_input, without_look}
use Rattle.viewer_session.specs.Turn.{has_reason}
use Rattle.viewer_session.specs.Viewer.{Setup, Viewer, out_bytes, after_bytes, after_cut, may_look, viewer_fault}
use Rattle.reflect_world.specs.Relay.{RelaySide}
use Rattle.host_decoder.specs.Hosts.{ended_updates}
use Rattle.reflect_world.specs.Schedule.{Step, World, HostBytes, Put, Raise, Join, Bytes, Look, Cut, Written, Send, Take, Leave, happens, play, Next}
use Rattle.reflect_world.specs.Host.{HasReadTo, HostSide, HostStands, IsSameHost}
use Rattle.reflect_world.specs.Headline.{Holds}
use Rattle.reflect_world.specs.Input.{RelaysAllowed}
use Rattle.reflect_world.specs.Said.{ArePutInOrder, HoldsAfterEachWritten, IsRead, IsSaid}
use Rattle.reflect_world.specs.declared.step.Step as declared_step
use Rattle.reflect_world.specs.declared.step.Step.TheVariants as code
use Rattle.reflect_world.specs.declared.step.ScheduleEntry as declared_entry
use Rattle.reflect_world.specs.declared.step.ScheduleEntry.TheVariants as kept

-- ---- steps

-- The step for which a step in the code stands, without marks for texts.
abbrev pub step_of : declared_step.Step → Step
step_of (code.HostBytes bytes) = HostBytes bytes.items
step_of code.Put = Put
step_of code.Raise = Raise
step_of code.Next = Next
step_of (code.Bytes viewer bytes) = Bytes viewer bytes.items []
step_of (code.Look viewer) = Look viewer
step_of (code.Cut viewer) = Cut viewer
step_of (code.Written viewer count) = Written viewer count
step_of (code.Send viewer) = Send viewer
step_of code.Take = Take

-- The same step, with a mark for each text of a viewer that it completed. The mark says whether the text found no
-- memory.
abbrev pub step_with : declared_step.Step → List Bool → Step
step_with (code.HostBytes bytes) lost = HostBytes bytes.items
step_with code.Put lost = Put
step_with code.Raise lost = Raise
step_with code.Next lost = Next
step_with (code.Bytes viewer bytes) lost = Bytes viewer bytes.items lost
step_with (code.Look viewer) lost = Look viewer
step_with (code.Cut viewer) lost = Cut viewer
step_with (code.Written viewer count) lost = Written viewer count
step_with (code.Send viewer) lost = Send viewer
step_with code.Take lost = Take

-- A step without its marks.
abbrev pub unmarked : Step → Step
unmarked (Bytes viewer bytes lost) = Bytes viewer bytes []
unmarked e = e

-- The step that an entry of the world's list stands for.
abbrev pub entry_of : declared_entry.ScheduleEntry → Step
entry_of (kept.Joined viewer role greet) = Join viewer role greet
entry_of (kept.Left viewer) = Leave viewer
entry_of (kept.Played step lost) = step_with step lost.items

-- ---- what contracts see of a world

-- The size and the name of its screen, the room for inputs, the form in which its viewers are answered, its schedule,
-- and whether a step was refused for want of memory.
pub record Kept : Type 0 where
  pub width : ℕ
  pub height : ℕ
  pub name : List ℕ
  pub room : ℕ
  pub runs : RectForm
  pub steps : List Step
  pub is_refused : Bool

-- How viewers of a world are answered: with rectangles of this form, without ZRLE, and without copies of the host.
abbrev pub plain_form : RectForm → AnswerForm
plain_form runs = record { runs = runs; zrle = false; copies = false }

-- Viewers are answered without ZRLE and without copies of the host.
pub record IsPlain (form : AnswerForm) : Type 0 where
  pub zrle : form.zrle ≡ false
  pub copies : form.copies ≡ false

-- The setup of the definitions: the world's screen, its room and its form. Its viewers aren't told of sizes.
abbrev pub setup_of : Kept → Setup
setup_of k = record { w = k.width; h = k.height; name = k.name; room = k.room; form = plain_form k.runs; host = None }

-- The world of the definitions that its schedule makes.
abbrev pub world_of : Kept → World
world_of k = play (setup_of k) k.steps

-- ---- what the fields hold

-- A viewer: its session, the reply to its last step where that was a look, what was written to it, and its own bytes
-- that are unread, since an input waits.
pub record Held : Type 0 where
  pub session : State
  pub looked : Option ℕ
  pub written : List ℕ
  pub unread : List ℕ

-- The screen, the host and the fault that its bytes showed, the viewers by number, the room for inputs, and the inputs
-- on their way to the host.
pub record Standing : Type 0 where
  pub screen : Plain
  pub host : HostSide
  pub host_fault : Option Fault
  pub places : List (Option Held)
  pub room : ℕ
  pub relay : RelaySide

-- The place of a number, if a viewer has it.
abbrev pub place_at : List (Option Held) → ℕ → Option Held
place_at places v = slice_index_or places v None

-- There is a viewer, and an input of it waits.
abbrev pub waits_at : Option Held → Bool
waits_at None = false
waits_at (Some place) = is_some place.session.waiting

-- A place stands for a viewer. If there was a cut, the last one was of the screen after the first of these updates, and
-- the session has counted the Bells among them. Where its last step was a look, it is ready to go on with the turn.
pub record PlaceStands (s : Setup) (us : List Update) (place : Held) (p : Viewer) : Type 0 where
  pub session : Stands s place.session (at_rest p)
  pub unread : place.unread ≡ p.unread
  pub marks : p.lost ≡ []
  pub counted : HasCounted place.session us
  pub looked : place.looked ≡ p.looked
  pub ready : is_some place.looked ≡ true → is_ready place.session ≡ true
  pub written : place.written ≡ take p.written (out_bytes s p)

-- Either there are both a place and a viewer, so related, or neither.
abbrev pub PlaceBy : (Held → Viewer → Type 0) → Option Held → Option Viewer → Type 0
PlaceBy P None None = Unit {0}
PlaceBy P None (Some p) = ⊥
PlaceBy P (Some place) None = ⊥
PlaceBy P (Some place) (Some p) = P place p

-- What is seen of a place: the fault of its viewer's bytes, and what was written to it.
pub record PlaceShows (s : Setup) (place : Held) (p : Viewer) : Type 0 where
  pub fault : fault_in place.session ≡ viewer_fault p
  pub written : place.written ≡ take p.written (out_bytes s p)

-- What is seen of the fields is what the schedule has come to; the updates that were put have the same effect as those
-- of the schedule. This stays true even where memory was refused in the middle of a step.
pub record Shows (s : Setup) (standing : Standing) (w : World) : Type 0 where
  pub size : IsScreenSize s.w s.h
  pub width : standing.screen.width ≡ s.w
  pub height : standing.screen.height ≡ s.h
  pub updates : AreSameFrom s.w s.h opening opening w.shared.updates standing.screen.updates
  pub fault : standing.host_fault ≡ w.host_fault
  pub taken : standing.relay.taken ≡ w.taken
  pub room : length standing.places ≡ 65
  pub places : (v : ℕ) → PlaceBy (PlaceShows s) (place_at standing.places v) (w.viewers v)

-- What the fields hold is what the schedule has come to.
pub record Reached (s : Setup) (standing : Standing) (w : World) : Type 0 where
  pub size : IsScreenSize s.w s.h
  pub width : standing.screen.width ≡ s.w
  pub height : standing.screen.height ≡ s.h
  pub in_order : ArePutInOrder s w
  pub plain : IsPlain s.form
  pub updates : AreSameFrom s.w s.h opening opening w.shared.updates standing.screen.updates
  pub tally : standing.screen.tally ≡ w.shared.tally
  pub host_width : standing.host.decoder.width ≡ s.w
  pub host_height : standing.host.decoder.height ≡ s.h
  pub host : HostStands (ended_updates s.w s.h w.ended) w.host_bytes standing.screen.updates standing.host
  pub fault : standing.host_fault ≡ w.host_fault
  pub limit : standing.room ≡ s.room
  pub queue : standing.relay.queue ≡ w.queue
  pub taken : standing.relay.taken ≡ w.taken
  pub room : length standing.places ≡ 65
  pub places : (v : ℕ) → PlaceBy (PlaceStands s w.shared.updates) (place_at standing.places v) (w.viewers v)

-- ---- what the calls of a place do

-- A place with this session, whose last step was no look.
abbrev pub with_session : Held → State → Held
with_session place session = record { session = session; looked = None; written = place.written; unread = place.unread }

-- Bytes of the viewer came, after those that weren't read yet, with these marks for the texts that became whole.
pub record IsFed (old new : Held) (bytes : List ℕ) (marks : List Bool) : Type 0 where
  pub others : new ≡ record { session = new.session; looked = None; written = old.written; unread = new.unread }
  pub stands : (s : Setup) (p : Viewer) → Stands s old.session p → StandsBut s new.session (after_bytes (with_marks marks p) (old.unread ++ bytes)) new.unread
  pub counted : (us : List Update) → HasCounted old.session us → HasCounted new.session us

-- Unread bytes were read, up to the end of a message. The look and what was written stay.
pub record ReadsMore (old new : Held) (before after : List Bool) : Type 0 where
  pub others : new ≡ record old { session = new.session; unread = new.unread }
  pub marks : List Bool
  pub marked : after ≡ before ++ marks
  pub feeding : IsFeeding old.session new.session marks old.unread new.unread
  pub counted : (us : List Update) → HasCounted old.session us → HasCounted new.session us

-- The viewer looked at the tally, if it may look.
pub record HasLooked (old new : Held) (tally : ℕ) : Type 0 where
  pub others : new ≡ record old { looked = if is_ready old.session then Some tally else None }
  pub stands : (s : Setup) (p : Viewer) → Stands s old.session p → is_ready old.session ≡ may_look s p

-- This many of its unsent bytes were written.
pub record IsWritten (old new : Held) (count : ℕ) : Type 0 where
  pub others : new ≡ record { session = new.session; looked = None; written = old.written ++ take count old.session.unsent; unread = old.unread }
  pub stands : (s : Setup) (p : Viewer) → Stands s old.session p → Stands s new.session (after_writing count p)
  pub counted : (us : List Update) → HasCounted old.session us → HasCounted new.session us

-- This many of its unsent bytes were written, and nothing else changed.
pub record WritesSome (old new : Held) (count : ℕ) : Type 0 where
  pub others : new ≡ record old { session = new.session; written = old.written ++ take count old.session.unsent }
  pub within : count ≤ length old.session.unsent
  pub left : new.session.unsent ≡ drop count old.session.unsent
  pub fault : fault_in new.session ≡ fault_in old.session
  pub stands : (s : Setup) (p : Viewer) → Stands s old.session p → Stands s new.session (after_writing count p)
  pub counted : (us : List Update) → HasCounted old.session us → HasCounted new.session us

-- Writing was broken off: the place shows what it showed before.
pub record IsBrokenOff (old new : Held) : Type 0 where
  pub fault : fault_in new.session ≡ fault_in old.session
  pub written : new.written ≡ old.written

-- The viewer went on with its turn after a look that replied this number, over a source of these updates.
pub record HasTurned (old new : Held) (looked : ℕ) (us : List Update) : Type 0 where
  pub others : new ≡ with_session old new.session
  pub stays : (s : Setup) (p : Viewer) → Stands s old.session p → has_reason s.w s.h p.entries looked ≡ false → Stands s new.session (without_look p)
  pub cuts : (s : Setup) (p : Viewer) → IsPlain s.form → HasCounted old.session us → Stands s old.session p → has_reason s.w s.h p.entries looked ≡ true → Stands s new.session (after_cut s us p)
  pub counted : HasCounted old.session us → HasCounted new.session us

-- The viewer went on with its turn, where it had looked; otherwise nothing changed.
abbrev pub GoesOn : Option ℕ → Held → Held → List Update → Type 0
GoesOn None old new us = new ≡ old
GoesOn (Some looked) old new us = HasTurned old new looked us

-- The viewer's waiting input was taken.
pub record HasSent (old new : Held) : Type 0 where
  pub others : new ≡ with_session old new.session
  pub stands : (s : Setup) (p : Viewer) → Stands s old.session p → Stands s new.session (without_input (without_look p))
  pub counted : (us : List Update) → HasCounted old.session us → HasCounted new.session us

-- What goes to the host of a viewer that leaves: the input that waits, and the releases of what its session holds.
abbrev pub left_by : Held → List Input
left_by place = waiting_list place.session.waiting ++ left_in place.session.held

-- An update was put.
pub record IsPut (old new : Standing) (u : Update) : Type 0 where
  pub others : new ≡ record old { screen = new.screen }
  pub size : (new.screen.width ≡ old.screen.width) × (new.screen.height ≡ old.screen.height)
  pub updates : new.screen.updates ≡ old.screen.updates ++ u ∷ []
  pub tally : new.screen.tally ≡ old.screen.tally

-- An update couldn't be put: the host stands as if it weren't read yet.
pub record IsUnread (old new : Standing) (u : Update) : Type 0 where
  pub others : new ≡ record old { host = new.host }
  pub size : IsSameHost old.host new.host
  pub stands : (past : List Update) (bytes : List ℕ) (us : List Update) → HasReadTo past bytes (us ++ u ∷ []) old.host → HasReadTo past bytes us new.host

-- There is a viewer, and its input waits.
abbrev pub has_waiting : Option Viewer → Bool
has_waiting None = false
has_waiting (Some p) = is_some p.waiting

-- ---- what a step does

-- If the old fields stood for a world, the new ones stand for what this step makes of it.
abbrev pub TakesStep : Step → Standing → Standing → Type 0
TakesStep e old new = (s : Setup) (w : World) → Reached s old w → Reached s new (happens s w e)

-- The same as TakesStep, for a screen with this name, whose viewers are answered in this form and are told of no sizes.
abbrev pub JoinsUnder : List ℕ → RectForm → Step → Standing → Standing → Type 0
JoinsUnder name runs e old new = (s : Setup) (w : World) → s.name ≡ name → s.form ≡ plain_form runs → s.host ≡ None → Reached s old w → Reached s new (happens s w e)

-- If the old fields stood for a world, the new ones stand for it, too.
abbrev pub StaysFor : Standing → Standing → Type 0
StaysFor old new = (s : Setup) (w : World) → Reached s old w → Reached s new w

-- If the old fields stood for a world, the new ones still show it.
abbrev pub StaysSeen : Standing → Standing → Type 0
StaysSeen old new = (s : Setup) (w : World) → Reached s old w → Shows s new w

-- Where a step failed with this fault: the new fields still show the world that the old ones stood for, and after
-- NumbersOut they still stand for it.
abbrev pub Leaves : Standing → Standing → Fault → Type 0
Leaves old new fault = StaysSeen old new × (fault ≡ NumbersOut → StaysFor old new)

-- If the old fields showed a world, the new ones show what this step makes of it, for a screen with this name, whose
-- viewers are answered in this form and are told of no sizes.
abbrev pub ShowsUnder : List ℕ → RectForm → Step → Standing → Standing → Type 0
ShowsUnder name runs e old new = (s : Setup) (w : World) → s.name ≡ name → s.form ≡ plain_form runs → s.host ≡ None → Shows s old w → Shows s new (happens s w e)

-- The same as ShowsUnder, whatever the name and the form.
abbrev pub ShowsStep : Step → Standing → Standing → Type 0
ShowsStep e old new = (s : Setup) (w : World) → Shows s old w → Shows s new (happens s w e)

-- The fields stand for some world.
abbrev pub IsReachable : Standing → Type 0
IsReachable standing = (s : Setup) × (w : World) × Reached s standing w

-- The fields show some world.
abbrev pub IsSeen : Standing → Type 0
IsSeen standing = (s : Setup) × (w : World) × Shows s standing w

-- Why a step isn't taken: memory is refused, or at a Put there are no more numbers.
abbrev pub IsRefusal : Step → Standing → Fault → Type 0
IsRefusal e standing fault = (fault ≡ Memory) ⊎ ((fault ≡ NumbersOut) × (e ≡ Put) × (length standing.screen.updates ≡ 2 ^ 62))

-- ---- what a world's calls do

-- The fields stand for what the schedule has come to, over a screen with a name of 1 to 255 bytes. Once memory was
-- refused they only show it, and no step is taken any longer.
pub record IsKept (k : Kept) (standing : Standing) : Type 0 where
  pub named : (1 ≤ length k.name) × (length k.name ≤ 255)
  pub shows : Shows (setup_of k) standing (world_of k)
  pub reached : k.is_refused ≡ false → Reached (setup_of k) standing (world_of k)

-- A step was refused, and isn't in the schedule: for want of memory, which is noted; or at a Put for which there is no
-- number left.
abbrev pub StopsAt : Kept → Kept → Step → Fault → Type 0
StopsAt old new e fault =
    ((fault ≡ Memory) × (new ≡ record old { is_refused = true }))
    ⊎ ((fault ≡ NumbersOut) × (e ≡ Put) × (length (world_of old).shared.updates ≡ 2 ^ 62) × (new ≡ old))

-- The world with these steps after its own.
abbrev pub with_steps : Kept → List Step → Kept
with_steps k es = record k { steps = k.steps ++ es }

-- All of the steps were played, with marks for texts.
abbrev pub HasPlayed : Kept → Kept → List Step → Type 0
HasPlayed old new es = (old.is_refused ≡ false) × ((played : List Step) × (map unmarked played ≡ es) × (new ≡ with_steps old played))

-- No step was played, since one was refused for want of memory before; or this many were played, and the next was
-- refused.
abbrev pub HasStopped : Kept → Kept → List Step → ℕ → Fault → Type 0
HasStopped old new es count fault =
    ((old.is_refused ≡ true) × (new ≡ old) × (count ≡ 0) × (fault ≡ Memory))
    ⊎ ((old.is_refused ≡ false) × ((played : List Step) × (e : Step) × (map unmarked played ≡ take count es) × (slice_get es count ≡ Some e) × StopsAt (with_steps old played) new e fault))

-- What holds of a schedule. First the headline: after each answer a viewer that follows its answers holds the area
-- asked for, and the puts, raises, looks and cuts are one legal history, which has the viewers' own. The updates are
-- those of the host's bytes, in order. Each viewer is sent its Bells, texts and answers and nothing else, and reads
-- exactly these; once an answer is written whole, it holds the area. What is relayed of each viewer is what is allowed
-- of its messages, in each of its stays; and what the host is sent is unbroken.
pub record IsServed (s : Setup) (es : List Step) : Type 0 where
  pub holds : Holds s es
  pub in_order : ArePutInOrder s (play s es)
  pub said : IsSaid s (play s es)
  pub read : IsRead s (play s es)
  pub written : HoldsAfterEachWritten s (play s es)
  pub relayed : RelaysAllowed s es

-- IsServed is true of each beginning of a world's schedule, and of the whole: so a viewer that has left was served as
-- long as it was there.
abbrev pub IsFaithful : Kept → Type 0
IsFaithful k = (before after : List Step) → k.steps ≡ before ++ after → IsServed (setup_of k) before
