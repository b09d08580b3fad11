-- What happens at the doors of a run, one after another, and how the doors stand then.
use Rattle.std.specs.Prelude.{◌≡◌, ◌≢◌, ℕ, true, false, List, [], ◌∷◌, All, Some}
use Rattle.std.specs.declared.net.socket_addr.SocketAddr.{SocketAddr}
use Rattle.roles.specs.declared.role.Role.{Role}
use Rattle.run_control.specs.declared.doors.PlaceState.TheVariants.{Free, Taken}
use Rattle.run_control.specs.declared.doors.Entry.TheVariants.{Open}
use Rattle.run_control.specs.declared.request.Request.{Request}
use Rattle.run_control.specs.declared.request.Request.TheVariants.{End, Next, Call, Stop}
use Rattle.run_control.specs.Doors.{Standing, place_at, is_asked, after_coming, after_leaving, after_request}

-- A request is made, a viewer comes to a place, or a viewer leaves its place.
pub data Happening : Type 0 where
  Asked : Request → Happening
  Comes : ℕ → Happening
  Leaves : ℕ → Happening

abbrev pub after_happening : Standing → Happening → Standing
after_happening s (Asked request) = after_request s request
after_happening s (Comes n) = after_coming s n
after_happening s (Leaves n) = after_leaving s n

abbrev pub after_all : Standing → List Happening → Standing
after_all s [] = s
after_all s (h ∷ hs) = after_all (after_happening s h) hs

abbrev pub DrainedDoorsLetNobodyIn : Type 0
DrainedDoorsLetNobodyIn = (s : Standing) (n : ℕ) → s.entry ≢ Open → after_coming s n ≡ s

-- A place's viewer is asked to leave, and nothing else changes.
pub record AsksOne (old new : Standing) (n : ℕ) : Type 0 where
  pub asked : is_asked new n ≡ true
  pub others : (k : ℕ) → k ≢ n → place_at new k ≡ place_at old k
  pub entry : new.entry ≡ old.entry

abbrev pub EndAsksOnePlace : Type 0
EndAsksOnePlace = (s : Standing) (n : ℕ) → place_at s n ≡ Some Taken → AsksOne s (after_request s (End n)) n

abbrev pub NextChangesNoDoor : Type 0
NextChangesNoDoor = (s : Standing) → after_request s Next ≡ s

abbrev pub CallChangesNoDoor : Type 0
CallChangesNoDoor = (s : Standing) (role : Role) (address : SocketAddr) → after_request s (Call role address) ≡ s

-- Each viewer is asked to leave, and no place gets one.
pub record NobodyComesIn (old new : Standing) : Type 0 where
  pub asked : (k : ℕ) → place_at new k ≡ Some Taken → is_asked new k ≡ true
  pub vacant : (k : ℕ) → place_at old k ≡ Some Free → place_at new k ≡ Some Free

abbrev pub NobodyComesInAfterAStop : Type 0
NobodyComesInAfterAStop = (s : Standing) (hs : List Happening) → NobodyComesIn s (after_all (after_request s Stop) hs)

-- What happens doesn't ask the viewer of this place to leave.
abbrev pub Spares : ℕ → Happening → Type 0
Spares n (Asked request) = (request ≢ End n) × (request ≢ Stop)
Spares n (Comes k) = Unit {0}
Spares n (Leaves k) = Unit {0}

abbrev pub WhoeverIsThereStays : Type 0
WhoeverIsThereStays = (s : Standing) (n : ℕ) (hs : List Happening) → All (Spares n) hs → is_asked s n ≡ false → is_asked (after_all s hs) n ≡ false
