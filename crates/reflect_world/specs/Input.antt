-- What of each viewer's input goes to the host (own; the inputs are messages of RFC 6143, 7.5.4 to 7.5.6).
use Rattle.std.specs.Prelude.{◌≡◌, ◌≢◌, ℕ, ◌+◌, ◌≤◌, Bool, true, false, ◌==◌, if◌then◌else◌, List, [], ◌∷◌, ◌++◌, length, map, Option, Some, None}
use Rattle.std.specs.List.{filter_map, list_any}
use Rattle.roles.specs.declared.role.Role.{Role}
use Rattle.roles.specs.Allowed.{Input, allowed}
use Rattle.roles.specs.Strokes.{Taken, sent_by, has_down, IsPickedFrom}
use Rattle.reflect_core.specs.Sequential.{Begins}
use Rattle.viewer_session.specs.Acts.{waiting_list}
use Rattle.viewer_session.specs.Record.{messages_in}
use Rattle.viewer_session.specs.Viewer.{Setup, Viewer}
use Rattle.reflect_world.specs.Schedule.{Relayed, World, Step, HostBytes, Put, Raise, Join, Bytes, Look, Cut, Written, Send, Take, Leave, leaves_behind, play, taken_from, told_of, Next}

-- What was relayed, in order: what was taken for the host, and then what is in the queue.
abbrev pub all_relayed : World → List Relayed
all_relayed w = w.taken ++ w.queue

-- An input, where it is this viewer's.
abbrev pub input_by : ℕ → Relayed → Option Input
input_by v it = if v == it.viewer then Some it.input else None

-- The inputs of a viewer among those relayed, in order.
abbrev pub relayed_by : ℕ → World → List Input
relayed_by v w = filter_map (input_by v) (all_relayed w)

-- A stay of the viewer begins or ends by the step.
abbrev pub bounds_stay : ℕ → Step → Bool
bounds_stay v (HostBytes b) = false
bounds_stay v Put = false
bounds_stay v Raise = false
bounds_stay v Next = false
bounds_stay v (Join u role greet) = v == u
bounds_stay v (Bytes u b lost) = false
bounds_stay v (Look u) = false
bounds_stay v (Cut u) = false
bounds_stay v (Written u count) = false
bounds_stay v (Send u) = false
bounds_stay v Take = false
bounds_stay v (Leave u) = v == u

-- Where the viewer leaves now, its inputs that were relayed in this stay are a beginning of all that is allowed of it,
-- releases included. Where the queue has room, they are all of that.
pub record LeavesAllowed (s : Setup) (before es : List Step) (v : ℕ) (p : Viewer) : Type 0 where
  pub sent : List Input
  pub relayed : relayed_by v (play s (es ++ Leave v ∷ [])) ≡ relayed_by v (play s before) ++ sent
  pub begins : Begins sent (allowed p.role (messages_in p.entries) true)
  pub whole : length (play s es).queue + length (leaves_behind v p) ≤ s.room → sent ≡ allowed p.role (messages_in p.entries) true

-- A stay of a viewer that joined in this role after the steps `before` and hasn't left since. The viewer is there. Its
-- inputs that were relayed since, followed by the one that waits, are all that is allowed of its messages.
pub record StaysAllowed (s : Setup) (before es : List Step) (v : ℕ) (role : Role) : Type 0 where
  pub viewer : Viewer
  pub there : (play s es).viewers v ≡ Some viewer
  pub sent : List Input
  pub relayed : relayed_by v (play s es) ≡ relayed_by v (play s before) ++ sent
  pub all : sent ++ waiting_list viewer.waiting ≡ allowed role (messages_in viewer.entries) false
  pub same_role : viewer.role ≡ role
  pub leaves : LeavesAllowed s before es v viewer

-- What the host is sent is unbroken. What passes of a viewer's input is some of what was taken of it, in order, each
-- input at most once. Where an input of a viewer passes, no other viewer has a key or a button down; so between a
-- viewer's first press and the last release of its keys and buttons nothing of another passes.
pub record TellsUnbroken (w : World) : Type 0 where
  pub picked : (v : ℕ) → IsPickedFrom (sent_by v (told_of w.taken)) (sent_by v (map taken_from w.taken))
  pub whole : (before after : List Taken) (t : Taken) → told_of w.taken ≡ before ++ t ∷ after → (v : ℕ) → v ≢ t.place → has_down v before ≡ false

-- StaysAllowed is true of each stay of each viewer. What was relayed only grows, at its end. No step relays input of a
-- viewer that isn't there. What the host is sent is unbroken.
pub record RelaysAllowed (s : Setup) (es : List Step) : Type 0 where
  pub stays : (v : ℕ) (role : Role) (greet : Bool) (before since : List Step) → es ≡ before ++ Join v role greet ∷ since → list_any (bounds_stay v) since ≡ false → StaysAllowed s before es v role
  pub grows : (e : Step) → Begins (all_relayed (play s es)) (all_relayed (play s (es ++ e ∷ [])))
  pub absent : (v : ℕ) (e : Step) → (play s es).viewers v ≡ None → relayed_by v (play s (es ++ e ∷ [])) ≡ relayed_by v (play s es)
  pub told : TellsUnbroken (play s es)

-- RelaysAllowed is true of every schedule.
abbrev pub RelaysInEverySchedule : Type 0
RelaysInEverySchedule = (s : Setup) (es : List Step) → RelaysAllowed s es
