-- A door over TCP may go to another thread, where its handle and its log may.
use denote.Param.Send.{IsSend, sendable}
use denote.RattleType.{RattleType}
use denote.Struct.Field.{row_field}
use denote.Param.SendFields.{as_row_send, declared_send}
use Rattle.std.specs.declared.sync.Wait as wait
use Rattle.std.specs.declared.time.Clock as clock
use Rattle.std.proofs.Crossing.{crosses}
use Rattle.std.proofs.option.Option.TheSendSync as option
use Rattle.std.proofs.net.socket_addr.SocketAddr.TheSendSync as socket
use Rattle.run_traits.proofs.Sent.{trail_send}
use Rattle.connections.specs.contracts.lobby.TcpDoor as door
use Rattle.connections.proofs.lobby.Lobby.TheSendSync as lobby
use Rattle.connections.proofs.seat.Seat.TheSendSync as seat

pub door_send : (R G : RattleType) (w : wait.Ghosts R.Denot) (k : clock.Ghosts R.Denot) → IsSend R → IsSend G → IsSend (door.the_row R G w k)
door_send R G w k r l =
    declared_send (door.the_type R G w k) (as_row_send (row_field R) r, (search sendable, (search (sendable, crosses, lobby.the_send, lobby.the_sync), (search (sendable, crosses, seat.the_send, seat.the_sync), (search sendable, (as_row_send (row_field G) l, (search sendable, (search (sendable, option.the_field_send, socket.the_send), (search sendable, (search trail_send, tt))))))))))
