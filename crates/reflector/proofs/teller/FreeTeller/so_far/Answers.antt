-- What a teller keeps is more than what it promises.
use Rattle.std.proofs.Common.{refl}
use Rattle.std.proofs.Math.Logic.{∥∥₁_map}
use Rattle.reflector.proofs.InTurn.{in_turn_so_far}
use Rattle.reflector.proofs.Telling.{told_all}
use Rattle.reflector.proofs.teller.FreeTeller.so_far.Goals as goal

pub returns-clause-told : goal.returns-clause-told
returns-clause-told g c = ∥∥₁_map c.args.self.now.lawful (λ k. told_all _ _ _ _ _ _ _ _ _ k refl)

pub returns-clause-in_turn : goal.returns-clause-in_turn
returns-clause-in_turn g c = ∥∥₁_map c.args.self.now.lawful (λ k. λ w h sizes nothing none. in_turn_so_far g.S.ScreenSource.looks g.S.ScreenSource.width g.S.ScreenSource.height w h sizes _ _ _ _ k nothing none)
