-- The door may go to the thread that serves its viewers.
use denote.Param.{copied}
use denote.Param.Send.{IsSend, sendable}
use denote.RattleType.{RattleType}
use Rattle.std.proofs.Crossing.{crosses}
use Rattle.connections.proofs.Sending.{door_send}
use Rattle.connection_tests.specs.contracts.keeper.Keeper as log
use Rattle.connection_tests.proofs.keeper.Keeper.TheSendSync as keeper
use Rattle.connection_tests.proofs.refused.runs_over_tcp.Goals as goal

pub serves-requires-send-D : goal.serves-requires-send-D
serves-requires-send-D g c κs within =
    let r = c.type_bounds.send-R in
    let R : RattleType = copied 0 g.row.R in
    let l : IsSend (log.the_row R) = search (sendable, crosses, keeper.the_send) in
    search (sendable, door_send)
