use Rattle.std.proofs.Common.{ap, sym}
use Rattle.input_relay.proofs.Strands.{sends}
use Rattle.input_relay.proofs.queue.Sender.send.Goals as goal

pub push_as-requires-clause-rule : goal.push_as-requires-clause-rule
push_as-requires-clause-rule g c = let role = c.args.self.now.role in (sends _ _ _ _ (ap (λ v. v.sends) role) (sym (ap (λ v. v.from) role)), λ items views h at. tt)
