-- What a reading keeps is more than what it promises.
use Rattle.std.proofs.Math.Logic.{∥∥₁_map}
use Rattle.host_reader.proofs.Steps.{far_promised}
use Rattle.host_reader.proofs.reading.Reading.so_far.Goals as goal

pub returns-clause-reads : goal.returns-clause-reads
returns-clause-reads g c = ∥∥₁_map c.args.self.now.lawful (λ f. λ screen k. far_promised c.args.self.now.is_over _ _ screen _ _ _ _ _ _ _ (f screen k))
