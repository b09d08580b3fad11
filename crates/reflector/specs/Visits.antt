-- The visits of one place, one after another: which viewers its door let in, what each was served, and what the place
-- sent of their input (own).
use Rattle.std.specs.Prelude.{◌≡◌, ◌⊎◌, ℕ, Bool, true, false, List, [], ◌∷◌, Result, Err, Some, ⊤}
use Rattle.fault.specs.declared.kinds.Fault.{Fault}
use Rattle.fault.specs.declared.kinds.Fault.TheVariants.{Memory}
use Rattle.raster.specs.declared.size.Size.{Size}
use Rattle.raster.specs.Update.{Update}
use Rattle.viewer_session.specs.declared.form.AnswerForm.{AnswerForm}
use Rattle.roles.specs.Allowed.{Input}
use Rattle.roles.specs.declared.role.Role.{Role}
use Rattle.link.specs.Links.{LinkState}
use Rattle.run_traits.specs.Unused.{unused}
use Rattle.reflect_core.specs.Sequential.{Begins}
use Rattle.viewer_session.specs.Viewer.{Setup, new_viewer}
use Rattle.viewer_server.specs.Serving.{Serves}

-- A place between two visits: its door, the source of its screens, and the input that it has sent.
pub record At (D S : Type 0) : Type 0 where
  pub door : D
  pub source : S
  pub sent : List Input

abbrev pub at : {D S : Type 0} → D → S → List Input → At D S
at door source sent = record { door = door; source = source; sent = sent }

-- The name that viewers are told: a host without one is served under the name reflectord.
abbrev pub name_of : List ℕ → List ℕ
name_of [] = 114 ∷ 101 ∷ 102 ∷ 108 ∷ 101 ∷ 99 ∷ 116 ∷ 111 ∷ 114 ∷ 100 ∷ []
name_of (b ∷ bs) = b ∷ bs

-- A screen of this size and name, whose viewers are answered in this form. They are told of the host's sizes, the first
-- of which is this one.
abbrev pub setup_of : ℕ → ℕ → List ℕ → AnswerForm → Size → Setup
setup_of w h name form host = record { w = w; h = h; name = name; room = 0; form = form; host = Some host }

-- The size and the name are those of a run's screen, the form is that in which all its viewers are answered, and the
-- first size of which they are told is that of the host that was joined.
abbrev pub IsOfScreen : (w h : ℕ) → (name : List ℕ) → (form : AnswerForm) → (host : Size) → (width height : ℕ) → (told : List ℕ) → (answered : AnswerForm) → (first : Size) → Type 0
IsOfScreen w h name form host width height told answered first =
    (width ≡ w) × (height ≡ h) × (told ≡ name_of name) × (answered ≡ form) × (first ≡ host)

-- ---- one visit

-- A viewer of this role came over a link that had done nothing, and was served, from its hello on (Serves). What the
-- source knows has only grown.
pub record IsServed {S : Type 0} (looks cuts : S → ℕ → S → Type 0) (may_end was_set : Type 0) (may_refuse : Fault → Type 0) (known : S → List Update) (s : Setup) (role : Role) (source_old source_new : S)
    (sent_old sent_new : List Input) (why : Result (Unit {0}) Fault) (left : LinkState) : Type 0 where
  pub serves : Serves looks cuts may_end was_set may_refuse source_old source_new (known source_new) s (new_viewer role true) sent_old sent_new why unused left
  pub grows : Begins (known source_old) (known source_new)

-- There was no memory for a viewer, and it was let go: nothing was taken from it or given to it, and no input of it was
-- sent.
pub record IsLetGo {S : Type 0} (source_old source_new : S) (sent_old sent_new : List Input) (why : Result (Unit {0}) Fault) (left : LinkState) : Type 0 where
  pub memory : why ≡ Err Memory
  pub link : left ≡ unused
  pub source : source_new ≡ source_old
  pub sent : sent_new ≡ sent_old

-- What comes of a viewer: it is served or let go.
abbrev pub IsReceived : {S : Type 0} → (looks cuts : S → ℕ → S → Type 0) → (may_end was_set : Type 0) → (may_refuse : Fault → Type 0) → (known : S → List Update) → Setup → Role → (source_old source_new : S)
    → (sent_old sent_new : List Input) → (why : Result (Unit {0}) Fault) → (left : LinkState) → Type 0
IsReceived {S} looks cuts may_end was_set may_refuse known s role source_old source_new sent_old sent_new why left =
    IsServed looks cuts may_end was_set may_refuse known s role source_old source_new sent_old sent_new why left ⊎ IsLetGo source_old source_new sent_old sent_new why left

-- ---- all visits

-- One visit: the door lets a viewer in, the viewer is received, and the door sees it off, with its link as it was left.
pub record Visit {D S : Type 0} (lets_in : D → Bool → D → Type 0) (sees_off : D → LinkState → Result (Unit {0}) Fault → D → Type 0) (receives : S → S → List Input → List Input → Result (Unit {0}) Fault → LinkState → Type 0) (old new : At D S) : Type 0 where
  pub met : D
  pub left : LinkState
  pub why : Result (Unit {0}) Fault
  pub came : lets_in old.door true met
  pub received : receives old.source new.source old.sent new.sent why left
  pub went : sees_off met left why new.door

-- Visits one after another lead from the old state of the place to the new one. The list has the state before each of
-- them, the latest first.
abbrev pub AreVisits : {D S : Type 0} → (lets_in : D → Bool → D → Type 0) → (sees_off : D → LinkState → Result (Unit {0}) Fault → D → Type 0) → (receives : S → S → List Input → List Input → Result (Unit {0}) Fault → LinkState → Type 0) → At D S → List (At D S) → At D S → Type 0
AreVisits {D} {S} lets_in sees_off receives old [] new = new ≡ old
AreVisits {D} {S} lets_in sees_off receives old (before ∷ befores) new = AreVisits lets_in sees_off receives old befores before × Visit lets_in sees_off receives before new

-- Visits led so far from the old state of the place to this one.
abbrev pub IsVisiting : {D S : Type 0} → (lets_in : D → Bool → D → Type 0) → (sees_off : D → LinkState → Result (Unit {0}) Fault → D → Type 0) → (receives : S → S → List Input → List Input → Result (Unit {0}) Fault → LinkState → Type 0) → At D S → At D S → Type 0
IsVisiting {D} {S} lets_in sees_off receives old now = (befores : List (At D S)) × AreVisits lets_in sees_off receives old befores now

-- These were all visits of the place: after them it asked for no further viewer, or its door let none in.
pub record HasVisits {D S : Type 0} (lets_in : D → Bool → D → Type 0) (sees_off : D → LinkState → Result (Unit {0}) Fault → D → Type 0) (receives : S → S → List Input → List Input → Result (Unit {0}) Fault → LinkState → Type 0) (old new : At D S) : Type 0 where
  pub befores : List (At D S)
  pub last : At D S
  pub visits : AreVisits lets_in sees_off receives old befores last
  pub source : new.source ≡ last.source
  pub sent : new.sent ≡ last.sent
  pub door : (new.door ≡ last.door) ⊎ lets_in last.door false new.door

-- What the source knew before each of these visits begins what it knows in the end.
abbrev pub AllBegin : {D S : Type 0} → (known : S → List Update) → List (At D S) → At D S → Type 0
AllBegin {D} {S} known [] last = ⊤
AllBegin {D} {S} known (before ∷ befores) last = Begins (known before.source) (known last.source) × AllBegin known befores last
