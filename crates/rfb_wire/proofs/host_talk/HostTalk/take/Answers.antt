use Rattle.std.proofs.Common.{[], ◌∷◌, ◌++◌}
use Rattle.rfb_wire.proofs.Judging.{stays_alike}
use Rattle.rfb_wire.proofs.host_talk.HostTalk.take.Goals as goal

pub returns-else-len-self-clause-alike : goal.returns-else-len-self-clause-alike
returns-else-len-self-clause-alike c = rw c.push.ensures.items (stays_alike (record c.args.self.now { field = record { items = c.args.self.now.field.items ++ c.args.byte ∷ [] } }))
