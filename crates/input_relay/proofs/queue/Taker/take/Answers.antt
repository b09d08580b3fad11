use Rattle.std.proofs.Common.{ap}
use Rattle.input_relay.proofs.Strands.{takes, learns}
use Rattle.input_relay.proofs.queue.Taker.take.Goals as goal

pub pop_as-requires-clause-rule : goal.pop_as-requires-clause-rule
pop_as-requires-clause-rule g c = let role = c.args.self.now.role in (takes _ _ (ap (λ v. v.gets) role), learns _ _ (ap (λ v. v.gets) role))
