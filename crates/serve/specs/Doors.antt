-- The entries and the doors of a run (own).
use Rattle.std.specs.Prelude.{◌≡◌, ◌++◌, ℕ, Bool, Result, List, MatchOption, Option, false, length, map, replicate, true}
use Rattle.std.specs.List.{All, range_with_len}
use Rattle.std.specs.Arc.{arc_value}
use Rattle.roles.specs.declared.role.Role.{Role}
use Rattle.roles.specs.declared.role.Role.TheVariants.{Full, View}
use Rattle.settings.specs.ByRole.{places_for}
use Rattle.settings.specs.declared.values.Settings.{Settings}
use Rattle.fault.specs.declared.kinds.Fault.{Fault}
use Rattle.link.specs.Links.{LinkState}
use Rattle.connections.specs.Doors.{role_behind}
use Rattle.connections.specs.Doors as viewers
use Rattle.recorder.specs.Door as recorder
use Rattle.run_traits.specs.Either.{lets_in_either, sees_off_either}
use Rattle.connections.specs.declared.lobby.TcpDoor.{TcpDoor}
use Rattle.run_traits.specs.declared.either_door.EitherDoor.{EitherDoor}
use Rattle.run_traits.specs.declared.either_door.EitherDoor.TheVariants.{First, Second}
use Rattle.serve.specs.declared.open.RoleEntry.{RoleEntry}
use Rattle.serve.specs.declared.place_door.PlaceDoor.{PlaceDoor}

-- The entry is of these settings, and for viewers of this role.
abbrev pub IsEntryFor : Role → Settings → RoleEntry → Type 0
IsEntryFor role settings entry = (entry.settings.now ≡ settings) × ((arc_value entry.lobby).role ≡ role)

-- There is an entry for viewers with full control, unless there are only those who look on.
abbrev pub IsFullEntry : Settings → Option RoleEntry → Type 0
IsFullEntry settings full = MatchOption full (settings.view_only ≡ true) (λ entry. (settings.view_only ≡ false) × IsEntryFor Full settings entry)

-- The first entry, if there is one, is for viewers with full control, and the second for those that only look on.
pub record AreBoth (settings : Settings) (full : Option RoleEntry) (view : RoleEntry) : Type 0 where
  pub lets_type : IsFullEntry settings full
  pub lets_look : IsEntryFor View settings view

-- The roles beside doors.
abbrev pub roles_in : {D : Type 0} → List (Role × D) → List Role
roles_in doors = map (λ door. door.0) doors

-- There are as many doors of each role as the settings say, and those of full control come first.
abbrev pub AreDoorsFor : {D : Type 0} → Settings → List (Role × D) → Type 0
AreDoorsFor settings doors = roles_in doors ≡ replicate (places_for Full settings) Full ++ replicate settings.view_places View

-- Doors of places of viewers, and of a place that records.
module _ {R G : Type 0} where
  -- The role that a door is for: of viewers, that of the lobby that they come from; a recorder only looks on.
  abbrev pub role_behind_either : {B V W : Type 0} → EitherDoor (TcpDoor R G) B V W → Role
  role_behind_either (First door) = role_behind door
  role_behind_either (Second door) = View

  abbrev pub role_for : PlaceDoor R G → Role
  role_for door = role_behind_either door.door

  -- The number of a viewer's place. That of the recorder has none.
  abbrev pub number_behind : {B V W : Type 0} → EitherDoor (TcpDoor R G) B V W → ℕ
  number_behind (First door) = door.place
  number_behind (Second door) = 0

  abbrev pub place_of : PlaceDoor R G → ℕ
  place_of door = number_behind door.door

  -- The door inside lets somebody in, or sees somebody off.
  abbrev pub LetsIn : PlaceDoor R G → Bool → PlaceDoor R G → Type 0
  LetsIn old came new = lets_in_either viewers.LetsIn recorder.LetsIn old.door came new.door

  abbrev pub SeesOff : PlaceDoor R G → LinkState → Result (Unit {0}) Fault → PlaceDoor R G → Type 0
  SeesOff old state why new = sees_off_either viewers.SeesOff recorder.SeesOff old.door state why new.door

  -- Beside each door stands the role that it is for.
  abbrev pub HaveTheirRoles : List (Role × PlaceDoor R G) → Type 0
  HaveTheirRoles doors = All (λ door. door.0 ≡ role_for door.1) doors

  -- Their places have the numbers from 1 on, in order.
  abbrev pub AreNumbered : List (Role × PlaceDoor R G) → Type 0
  AreNumbered doors = map (λ door. place_of door.1) doors ≡ range_with_len 1 (length doors)
