-- What the hosts were told, one after another (own).
use Rattle.std.specs.Prelude.{◌≡◌, ℕ, List, [], ◌∷◌, ◌++◌, Result, ⊤}
use Rattle.reflect_core.specs.Sequential.{Begins}
use Rattle.fault.specs.declared.kinds.Fault.{Fault}
use Rattle.roles.specs.Strokes.{StrokesKept, StrokesStand, Taken}
use Rattle.link.specs.Links.{LinkState}
use Rattle.run_traits.specs.Unused.{unused}
use Rattle.host_writer.specs.Writing.{Did, Tells, all_taken, said, taken_in}
use Rattle.input_relay.specs.declared.queue.Message.{Message}

-- What telling the hosts has come to, between two of them: the links so far, each first as it came and then as it was
-- left; the source that is looked at; the input that was taken from the relay so far; and the strokes.
pub record Desk (S : Type 0) : Type 0 where
  pub links : List LinkState
  pub source : S
  pub taken : List Message
  pub strokes : StrokesKept

abbrev pub desk : {S : Type 0} → List LinkState → S → List Message → StrokesKept → Desk S
desk links source taken strokes = record { links = links; source = source; taken = taken; strokes = strokes }

-- One more host was told, over one more link, which came unused. What that link was given is as Tells says.
pub record Telling {S : Type 0} (looks : S → ℕ → S → Type 0) (width height : S → ℕ) (old new : Desk S) : Type 0 where
  pub came : LinkState
  pub left : LinkState
  pub answer : Result (Unit {0}) Fault
  pub links : new.links ≡ old.links ++ came ∷ left ∷ []
  pub fresh : came ≡ unused
  pub writes : Tells looks ⊤ old.source new.source old.taken new.taken old.strokes new.strokes (width old.source) (height old.source) answer came left

-- Hosts were told one after another. The list says how telling stood before each of them, the latest first.
abbrev pub AreTellings : {S : Type 0} → (looks : S → ℕ → S → Type 0) → (width height : S → ℕ) → Desk S → List (Desk S) → Desk S → Type 0
AreTellings {S} looks width height old [] new = new ≡ old
AreTellings {S} looks width height old (before ∷ befores) new = AreTellings looks width height old befores before × Telling looks width height before new

-- Hosts were told so far, and telling stands so.
abbrev pub IsTelling : {S : Type 0} → (looks : S → ℕ → S → Type 0) → (width height : S → ℕ) → Desk S → Desk S → Type 0
IsTelling {S} looks width height old now = (befores : List (Desk S)) × AreTellings looks width height old befores now

-- From this state on hosts were told over these links. In the end this input was taken, and the strokes stood so.
pub record HasTold {S : Type 0} (looks : S → ℕ → S → Type 0) (width height : S → ℕ) (old : Desk S) (links : List LinkState) (taken : List Message) (strokes : StrokesKept) : Type 0 where
  pub befores : List (Desk S)
  pub source : S
  pub tellings : AreTellings looks width height old befores (desk links source taken strokes)

-- The hosts of a whole run were told. It began with no link, with nothing taken, and with strokes that stand for
-- nothing taken.
pub record TellsHosts {S : Type 0} (looks : S → ℕ → S → Type 0) (width height : S → ℕ) (source : S) (links : List LinkState) (taken : List Message) (strokes : StrokesKept) : Type 0 where
  pub began : StrokesKept
  pub none_down : StrokesStand began []
  pub told : HasTold looks width height (desk [] source [] began) links taken strokes

-- ---- in plain words

-- A host was told, before which these inputs had been taken. Over its link, which came unused, it was given a beginning
-- of what is said for these acts, and nothing else: the spellings of the inputs that pass, and the requests. No byte
-- was taken over that link.
pub record IsToldOver (w h : ℕ) (before : List Taken) (did : List Did) (came left : LinkState) : Type 0 where
  pub given : List ℕ
  pub gave : left.given ≡ came.given ++ given
  pub begins : Begins given (said before w h did)
  pub heard : left.taken ≡ came.taken
  pub fresh : came ≡ unused

-- One host after another was told as IsToldOver says, over these links, each first as it came and then as it was left.
-- The input taken is divided between the hosts: no host is told anything that was taken for another.
abbrev pub AreToldInTurn : (w h : ℕ) → List Taken → List LinkState → List Message → Type 0
AreToldInTurn w h before [] taken = taken ≡ []
AreToldInTurn w h before (came ∷ []) taken = ⊥
AreToldInTurn w h before (came ∷ left ∷ links) taken = (did : List Did) × (later : List Message) × (taken ≡ taken_in did ++ later) × IsToldOver w h before did came left × AreToldInTurn w h (all_taken before did) links later
