-- Nothing was noted so far.
use Rattle.std.proofs.Common.{[]}
use Rattle.connections.specs.Doors.{HasNoted}
use Rattle.connections.proofs.lobby.TcpDoorDoor.next.Given as goal

abbrev pub invariant-loop : goal.invariant-loop
invariant-loop g l = HasNoted l.fn.self [] l.self
