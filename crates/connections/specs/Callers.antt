-- Newcomers to a web port.
use Rattle.std.specs.Prelude.{◌≡◌, ◌↔◌, IsTrue}
use Rattle.std.specs.Arc.{arc_value}
use Rattle.connections.specs.Greetings.{IsFromProxy}
use Rattle.connections.specs.declared.caller.Caller.{Caller}
use Rattle.connections.specs.declared.caller.WebEntry.{WebEntry}
use Rattle.connections.specs.declared.caller.WebNewcomer.{WebNewcomer}
use Rattle.connections.specs.declared.caller.WebNewcomer.TheVariants.{Asks}

-- A caller of this port asks the port's site, has the role and the key of its listener, and may be let to its lobby. A
-- proxy's header is read from the caller exactly where it comes from the believed proxy.
pub record IsCallerAt (entry : WebEntry) (caller : Caller) : Type 0 where
  pub role : caller.arrival.role ≡ entry.listener.role
  pub key : caller.arrival.key ≡ entry.listener.key
  pub proxied : IsTrue caller.arrival.whence.is_proxied ↔ IsFromProxy entry.listener.proxy caller.arrival.whence.peer
  pub site : caller.guest.site ≡ arc_value entry.site
  pub lobby : arc_value caller.lobby ≡ arc_value entry.lobby

-- The newcomer asks a site, and this is true of it.
abbrev pub IsAsking : WebNewcomer → (Caller → Type 0) → Type 0
IsAsking (Asks caller) holds = holds caller
IsAsking _ holds = ⊥
