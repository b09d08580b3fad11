-- What is done for a viewer, act by act, and which of its input is handed out (own; the input is of RFC 6143, 7.5.4 to
-- 7.5.6).
use Rattle.std.specs.Prelude.{◌≡◌, ℕ, Bool, true, false, List, [], ◌∷◌, ◌++◌, take, Option, Some, None}
use Rattle.raster.specs.Update.{Update}
use Rattle.roles.specs.declared.role.Role.{Role}
use Rattle.roles.specs.Allowed.{Input, allowed}
use Rattle.roles.specs.Held.{Kept, HeldStands, left_in}
use Rattle.reflect_core.specs.Sequential.{Begins}
use Rattle.viewer_session.specs.Record.{before_last, messages_in}
use Rattle.viewer_session.specs.Turn.{Chosen}
use Rattle.viewer_session.specs.Session.{State, Stands, after_look, after_writing, with_marks, without_input}
use Rattle.viewer_session.specs.Viewer.{Setup, Viewer, after_bytes, after_cut_as, new_viewer}

-- The cut of a turn: its number, and what the session chose of its answer, if it did.
pub record Cutting : Type 0 where
  pub number : ℕ
  pub chosen : Option Chosen

-- What is done for a viewer: bytes of it come, with a mark for each text that becomes whole in them; it has a turn,
-- with the reply of its look and, where it is cut, the cut; this many more bytes of its hello and answers
-- are written; its input that waits is handed out.
pub data Act : Type 0 where
  Bytes : (marks : List Bool) → (bytes : List ℕ) → Act
  Turn : (looked : ℕ) → (cut : Option Cutting) → Act
  Written : (count : ℕ) → Act
  Passed : Act

-- A list of acts has the latest first.

-- What a turn makes of a viewer, where these are the updates: a cut takes the first of them.
abbrev pub after_turn : Setup → List Update → (looked : ℕ) → Option Cutting → Viewer → Viewer
after_turn s us looked None p = after_look looked p
after_turn s us looked (Some cut) p = after_cut_as s (take cut.number us) cut.chosen (after_look looked p)

-- What an act makes of a viewer.
abbrev pub after_act : Setup → List Update → Act → Viewer → Viewer
after_act s us (Bytes marks bytes) p = after_bytes (with_marks marks p) bytes
after_act s us (Turn looked cut) p = after_turn s us looked cut p
after_act s us (Written count) p = after_writing count p
after_act s us Passed p = without_input p

-- What a list of acts makes of a viewer.
abbrev pub viewer_after : Setup → List Update → Viewer → List Act → Viewer
viewer_after s us p [] = p
viewer_after s us p (act ∷ acts) = after_act s us act (viewer_after s us p acts)

-- An input that waits, as a list.
abbrev pub waiting_list : Option Input → List Input
waiting_list None = []
waiting_list (Some input) = input ∷ []

-- All that is allowed of the viewer's messages is what was handed out and then what waits. All that the messages before
-- the last bring was handed out. What is kept stands for the messages.
pub record HasPassed (p : Viewer) (sent : List Input) : Type 0 where
  pub kept : Kept
  pub held : HeldStands p.role kept (messages_in p.entries)
  pub keys : p.keys ≡ kept.keys
  pub all : allowed p.role (messages_in p.entries) false ≡ sent ++ waiting_list p.waiting
  pub all_but_last : Begins (allowed p.role (messages_in (before_last p.entries)) false) sent

-- The inputs that are handed out, in order.
abbrev pub handed_out : Setup → List Update → Viewer → List Act → List Input
handed_out s us p [] = []
handed_out s us p (Bytes marks bytes ∷ acts) = handed_out s us p acts
handed_out s us p (Turn looked cut ∷ acts) = handed_out s us p acts
handed_out s us p (Written count ∷ acts) = handed_out s us p acts
handed_out s us p (Passed ∷ acts) = handed_out s us p acts ++ waiting_list (viewer_after s us p acts).waiting

-- Whatever is done for a viewer, what is handed out and then what waits is all that is allowed of its messages.
abbrev pub HandsOutAllowed : Type 0
HandsOutAllowed =
    (s : Setup) (us : List Update) (role : Role) (greet : Bool) (acts : List Act)
    → let p : Viewer = viewer_after s us (new_viewer role greet) acts in
    handed_out s us (new_viewer role greet) acts ++ waiting_list p.waiting ≡ allowed role (messages_in p.entries) false

-- And where the viewer leaves: what was handed out, what waits and what its session still has to release are together
-- all that is allowed of a viewer that has left.
abbrev pub ReleasesAllowed : Type 0
ReleasesAllowed =
    (s : Setup) (us : List Update) (role : Role) (greet : Bool) (acts : List Act) (st : State)
    → let p : Viewer = viewer_after s us (new_viewer role greet) acts in
    Stands s st p
    → (handed_out s us (new_viewer role greet) acts ++ waiting_list st.waiting) ++ left_in st.held ≡ allowed role (messages_in p.entries) true
