-- The door may go to the thread that serves its viewers.
use denote.Param.{copied}
use denote.Param.Send.{IsSend, sendable}
use denote.RattleType.{RattleType}
use Rattle.std.specs.contracts.sync.Arc as arc
use Rattle.std.specs.contracts.alloc.Global as global
use Rattle.std.specs.contracts.impls.GlobalAllocator.TheImpl as allocator
use Rattle.std.proofs.Crossing.{crosses}
use Rattle.connections.proofs.Sending.{door_send}
use Rattle.connection_tests.specs.contracts.house.Notebook as log
use Rattle.connection_tests.proofs.house.Notebook.TheSendSync as notebook
use Rattle.connection_tests.proofs.evenings.opens.Goals as goal

pub serves-is_right-requires-send-D : goal.serves-is_right-requires-send-D
serves-is_right-requires-send-D g c κs within =
    let r = c.type_bounds.send-R in
    let s = c.type_bounds.sync-R in
    let R : RattleType = copied 0 g.row.R in
    let l : IsSend (arc.the_row (log.the_row R) global.the_row allocator.ghosts) = search (sendable, crosses, notebook.the_send, notebook.the_sync) in
    search (sendable, door_send)
