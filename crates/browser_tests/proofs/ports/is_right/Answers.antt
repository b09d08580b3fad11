-- The door may go to the thread that serves its viewers.
use denote.Param.Send.{sendable}
use Rattle.connections.proofs.Sending.{door_send}
use Rattle.browser_tests.proofs.ports.is_right.Goals as goal

pub serves-came-requires-send-D : goal.serves-came-requires-send-D
serves-came-requires-send-D g c κs within = let r = c.type_bounds.send-R in search (sendable, door_send)
