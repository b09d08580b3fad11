-- Viewers that were called: the connection to them was opened here.
use Rattle.std.specs.Prelude.{◌≡◌, false, [], Some}
use Rattle.connections.specs.declared.called.Called.{Called}
use Rattle.connections.specs.declared.role_listener.Arrival.{Arrival}

-- A newcomer that was called has the role in which it was called. It comes from the address that was called, and no
-- proxy's header is wanted from it, since no proxy has passed it on.
pub record IsCalledAs (called : Called) (arrival : Arrival) : Type 0 where
  pub role : arrival.role ≡ called.role
  pub whence : arrival.whence ≡ record { peer = Some called.address; is_proxied = false; front = [] }
