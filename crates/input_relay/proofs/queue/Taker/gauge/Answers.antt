use Rattle.input_relay.proofs.Strands.{watches}
use Rattle.input_relay.proofs.queue.Taker.gauge.Goals as goal

pub another-pass-requires-clause-rule : goal.another-pass-requires-clause-rule
another-pass-requires-clause-rule g c = watches _ _
