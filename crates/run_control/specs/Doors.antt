-- How the doors of a run stand, and how requests and viewers that come and leave change them.
use Rattle.std.specs.Prelude.{ℕ, zero, suc, ◌&&◌, Bool, true, false, List, set, slice_get, count_by, Option, Some, None}
use Rattle.run_control.specs.declared.doors.PlaceState.{PlaceState}
use Rattle.run_control.specs.declared.doors.PlaceState.TheVariants.{Free, Taken, Leaving}
use Rattle.run_control.specs.declared.doors.Entry.{Entry}
use Rattle.run_control.specs.declared.doors.Entry.TheVariants.{Open, Drained, Closed}
use Rattle.run_control.specs.declared.doors.Outcome.{Outcome}
use Rattle.run_control.specs.declared.doors.Outcome.TheVariants as outcome
use Rattle.run_control.specs.declared.request.Request.{Request}
use Rattle.run_control.specs.declared.request.Request.TheVariants.{State, Drain, Undrain, End, Next, Call, Stop}

-- Whether viewers are let in, and how each place stands.
pub record Standing : Type 0 where
  pub entry : Entry
  pub places : List PlaceState

-- The place of this number, if there is one. Places are counted from 1.
abbrev pub place_at : Standing → ℕ → Option PlaceState
place_at s zero = None
place_at s (suc n) = slice_get s.places n

-- The place of this number, if there is one, stands so. All others stand as before.
abbrev pub with_place : Standing → ℕ → PlaceState → Standing
with_place s zero place = s
with_place s (suc n) place = record s { places = set s.places n place }

abbrev pub is_free : PlaceState → Bool
is_free Free = true
is_free Taken = false
is_free Leaving = false

abbrev pub free_places : Standing → ℕ
free_places s = count_by is_free s.places

-- Viewers are let in.
abbrev pub is_open : Entry → Bool
is_open Open = true
is_open Drained = false
is_open Closed = false

-- There is such a place, and it has no viewer.
abbrev pub is_vacant : Option PlaceState → Bool
is_vacant (Some Free) = true
is_vacant (Some Taken) = false
is_vacant (Some Leaving) = false
is_vacant None = false

-- The place has a viewer that is asked to leave. Where the run ends, each viewer is.
abbrev pub asks : Entry → Option PlaceState → Bool
asks entry None = false
asks entry (Some Free) = false
asks Open (Some Taken) = false
asks Drained (Some Taken) = false
asks Closed (Some Taken) = true
asks entry (Some Leaving) = true

abbrev pub is_asked : Standing → ℕ → Bool
is_asked s n = asks s.entry (place_at s n)

-- ---- who comes and leaves

-- A viewer that comes to a place is let in where the place is free and viewers are let in.
abbrev pub is_let_in : Standing → ℕ → Bool
is_let_in s n = is_open s.entry && is_vacant (place_at s n)

abbrev pub takes_if : Bool → Standing → ℕ → Standing
takes_if true s n = with_place s n Taken
takes_if false s n = s

abbrev pub after_coming : Standing → ℕ → Standing
after_coming s n = takes_if (is_let_in s n) s n

abbrev pub after_leaving : Standing → ℕ → Standing
after_leaving s n = with_place s n Free

-- ---- requests

-- Whether viewers are let in after a drain. A run that ends stays closed.
abbrev pub drained : Entry → Entry
drained Open = Drained
drained Drained = Drained
drained Closed = Closed

abbrev pub undrained : Entry → Entry
undrained Open = Open
undrained Drained = Open
undrained Closed = Closed

abbrev pub ended : Option PlaceState → Standing → ℕ → Standing
ended (Some Taken) s n = with_place s n Leaving
ended (Some Free) s n = s
ended (Some Leaving) s n = s
ended None s n = s

abbrev pub after_request : Standing → Request → Standing
after_request s (State form) = s
after_request s Drain = record s { entry = drained s.entry }
after_request s Undrain = record s { entry = undrained s.entry }
after_request s (End n) = ended (place_at s n) s n
after_request s Next = s
after_request s (Call role address) = s
after_request s Stop = record s { entry = Closed }

-- What a request to end a place's viewer is answered.
abbrev pub outcome_at : Option PlaceState → Outcome
outcome_at None = outcome.NoPlace
outcome_at (Some Free) = outcome.Nobody
outcome_at (Some Taken) = outcome.Done
outcome_at (Some Leaving) = outcome.Done

-- The answer to a request that isn't done any more once the run ends.
abbrev pub outcome_unless_closed : Entry → Outcome
outcome_unless_closed Closed = outcome.Ending
outcome_unless_closed Open = outcome.Done
outcome_unless_closed Drained = outcome.Done

-- What is answered to a request for one more viewer.
abbrev pub outcome_if_open : Entry → Outcome
outcome_if_open Open = outcome.Done
outcome_if_open Drained = outcome.Drained
outcome_if_open Closed = outcome.Ending

abbrev pub outcome_of : Standing → Request → Outcome
outcome_of s (State form) = outcome.Done
outcome_of s Drain = outcome.Done
outcome_of s Undrain = outcome_unless_closed s.entry
outcome_of s (End n) = outcome_at (place_at s n)
outcome_of s Next = outcome_unless_closed s.entry
outcome_of s (Call role address) = outcome_if_open s.entry
outcome_of s Stop = outcome.Done
