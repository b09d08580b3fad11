-- What contracts see of a viewer's link over TCP or over a WebSocket.
use Rattle.link.specs.Links.{LinkState}
use Rattle.link.specs.Either.{either_state}
use Rattle.link.specs.declared.either_link.EitherLink.{EitherLink}
use Rattle.connections.specs.Unlocked.{StandIn}
use Rattle.connections.specs.Wires.{Wired}

abbrev pub viewer_state : EitherLink Wired StandIn → LinkState
viewer_state link = either_state (λ (w : Wired). w.own) (λ (s : StandIn). s.own) link
