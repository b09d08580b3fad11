-- The door of a place may go to another thread, where the handle and the log of its run may.
use denote.Param.Send.{IsSend, sendable}
use denote.RattleType.{RattleType}
use denote.Param.SendFields.{declared_send}
use Rattle.std.specs.declared.sync.Wait as wait
use Rattle.std.specs.declared.time.Clock as clock
use Rattle.std.proofs.fs.File.TheSendSync as file
use Rattle.connections.proofs.Sending.{door_send}
use Rattle.recorder.proofs.Sending.{recorder_send}
use Rattle.run_traits.proofs.either_door.EitherDoor.TheSendSync as either
use Rattle.serve.proofs.tape.RecordingNotes.TheSendSync as notes
use Rattle.serve.specs.contracts.place_door.PlaceDoor as place

pub place_send : (R G : RattleType) (w : wait.Ghosts R.Denot) (k : clock.Ghosts R.Denot) → IsSend R → IsSend G → IsSend (place.the_row R G w k)
place_send R G w k r l =
    declared_send (place.the_type R G w k) (search (sendable, either.the_field_send, door_send, recorder_send, file.the_send, notes.the_send), tt)
