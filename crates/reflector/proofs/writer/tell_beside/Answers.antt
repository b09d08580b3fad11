-- What the promise keeps is what moves into the thread.
use denote.Param.Send.{IsSend, sendable}
use denote.RattleType.{RattleType}
use denote.Param.SendFields.{as_row_send, declared_send}
use Rattle.run_traits.proofs.Sent.{trail_send}
use Rattle.reflector.specs.contracts.writer.HostsTold as told
use Rattle.input_relay.specs.contracts.queue.Taker as taken
use Rattle.input_relay.proofs.queue.Taker.TheSendSync as taker
use Rattle.roles.proofs.strokes.Strokes.TheSendSync as strokes
use Rattle.reflector.proofs.writer.tell_beside.Goals as goal

pub spawn_with-started-requires-clause-keeps : goal.spawn_with-started-requires-clause-keeps
spawn_with-started-requires-clause-keeps g c κs within = λ r ens. rw (c.of.ensures, c.of-2.ensures, c.of-3.ensures) (ens.0, ens.1.0, ens.1.1)

told_send : (L R : RattleType) → IsSend R → IsSend (told.the_row L R)
told_send L R r = declared_send (told.the_type L R) (trail_send L, (as_row_send (taken.the_field R) (taker.the_field_send R r), (search (strokes.the_send), (search sendable, tt))))

pub spawn_with-started-requires-send-T : goal.spawn_with-started-requires-send-T
spawn_with-started-requires-send-T g c κs within = let r = c.type_bounds.send-R in search (sendable, told_send)
