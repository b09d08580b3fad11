-- Behind doors that have their roles comes that of the recorder, which looks on.
use Rattle.std.proofs.Common.{sym, true}
use Rattle.serve.proofs.Roles.{nobody_more, one_more}
use Rattle.serve.proofs.rooms.all_doors.Goals as goal

pub returns-clause-told : goal.returns-clause-told
returns-clause-told g c = one_more true _ _ _ _ c.in_ok-push.ensures.items (sym c.of_recorder.ensures) c.args.rooms.told

pub returns-in_default-clause-roles : goal.returns-in_default-clause-roles
returns-in_default-clause-roles g c = nobody_more c.args.recorder _ c.in_default.is
