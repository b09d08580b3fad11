-- What a telling keeps is more than what it promises.
use Rattle.std.proofs.Math.Logic.{∥∥₁_map}
use Rattle.host_writer.proofs.Writers.{telling_promised}
use Rattle.host_writer.proofs.telling.Telling.so_far.Goals as goal

pub returns-clause-tells : goal.returns-clause-tells
returns-clause-tells g c = ∥∥₁_map c.args.self.now.lawful (λ k. telling_promised g.S.ScreenSource.looks _ _ _ _ _ _ _ _ _ _ _ _ k)
