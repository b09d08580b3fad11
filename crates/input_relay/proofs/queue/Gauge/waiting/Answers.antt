use Rattle.input_relay.proofs.queue.Gauge.waiting.Goals as goal

pub len_as-requires-clause-rule : goal.len_as-requires-clause-rule
len_as-requires-clause-rule g c = λ items views h at. tt
