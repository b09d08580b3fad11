-- The recorder's door may go to another thread, where its handle, its files and its log may.
use denote.Param.Send.{IsSend, sendable}
use denote.RattleType.{RattleType}
use denote.Struct.Field.{row_field}
use denote.Param.SendFields.{as_row_send, declared_send}
use Rattle.std.specs.declared.io.traits.Write as write
use Rattle.std.proofs.Crossing.{crosses}
use Rattle.recorder.specs.contracts.door.RecorderDoor as door
use Rattle.connections.proofs.seat.Seat.TheSendSync as seat
use Rattle.recorder.proofs.standing.Recording.TheSendSync as recording
use Rattle.std.proofs.option.Option.TheSendSync as option
use Rattle.record_link.proofs.recorder.RecordLink.TheSendSync as link
use Rattle.recorder.proofs.file.RecordedFile.TheSendSync as file
use Rattle.recorder.proofs.watch.RecorderWatch.TheSendSync as watch

pub recorder_send : (R F N : RattleType) (w : write.Ghosts F.Denot) → IsSend R → IsSend F → IsSend N → IsSend (door.the_row R F N w)
recorder_send R F N w r f n =
    declared_send (door.the_type R F N w) (as_row_send (row_field R) r, (search (sendable, crosses, option.the_field_send, link.the_send, file.the_send, watch.the_send), (search (sendable, crosses, seat.the_send, seat.the_sync), (search (sendable, crosses, recording.the_send, recording.the_sync), (as_row_send (row_field N) n, tt)))))
