-- What a teller keeps is more than what it promises.
use Rattle.std.proofs.Common.{refl}
use Rattle.std.proofs.Math.Logic.{∥∥₁_map}
use Rattle.reflector.proofs.Telling.{told_all}
use Rattle.reflector.proofs.teller.BusyTeller.so_far.Goals as goal

pub returns-clause-told : goal.returns-clause-told
returns-clause-told g c = ∥∥₁_map c.args.self.now.lawful (λ k. (k.0, k.1, told_all _ _ _ _ _ _ _ _ _ k.2 refl))
