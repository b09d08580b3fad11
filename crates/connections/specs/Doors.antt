-- Whose viewers come through a door over TCP, and over which links.
use Rattle.std.specs.Prelude.{◌≡◌, Bool, true, false, List, [], ◌∷◌, ◌++◌, Result}
use Rattle.std.specs.Arc.{arc_value}
use Rattle.fault.specs.declared.kinds.Fault.{Fault}
use Rattle.link.specs.Links.{LinkState}
use Rattle.roles.specs.declared.role.Role.{Role}
use Rattle.run_traits.specs.Unused.{unused}
use Rattle.run_traits.specs.LinkTrails.{links_in}
use Rattle.connections.specs.Browsers.{viewer_state}
use Rattle.connections.specs.declared.lobby.TcpDoor.{TcpDoor}

-- The role of the lobby that a door's viewers come from.
abbrev pub role_behind : {R G : Type 0} → TcpDoor R G → Role
role_behind door = (arc_value door.lobby).role

-- The links of the viewers that a door has let in so far, in turn: each as it came, and then as it was left.
abbrev pub links_behind : {R G : Type 0} → TcpDoor R G → List LinkState
links_behind door = links_in viewer_state door.links

-- The new door is of the same place and the same lobby as the old one, and has noted these links since.
pub record HasNoted {R G : Type 0} (old : TcpDoor R G) (noted : List LinkState) (new : TcpDoor R G) : Type 0 where
  pub lobby : new.lobby ≡ old.lobby
  pub place : new.place ≡ old.place
  pub links : links_behind new ≡ links_behind old ++ noted

-- A viewer's link is noted as it comes. Where no viewer comes, none is.
abbrev pub LetsIn : {R G : Type 0} → TcpDoor R G → Bool → TcpDoor R G → Type 0
LetsIn old true new = HasNoted old (unused ∷ []) new
LetsIn old false new = HasNoted old [] new

-- A viewer's link is noted as it was left.
abbrev pub SeesOff : {R G : Type 0} → TcpDoor R G → LinkState → Result (Unit {0}) Fault → TcpDoor R G → Type 0
SeesOff old link why new = HasNoted old (link ∷ []) new
