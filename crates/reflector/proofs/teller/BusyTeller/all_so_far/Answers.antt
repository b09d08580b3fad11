-- The hosts before this one, and what this one was told so far.
use Rattle.std.proofs.Common.{[], ◌∷◌, ◌++◌, refl}
use Rattle.std.proofs.Math.Logic.{∥∥₁_map₂}
use Rattle.run_traits.specs.Unused.{unused}
use Rattle.reflector.specs.Tellings.{desk}
use Rattle.reflector.proofs.InTurn.{in_turn_with}
use Rattle.reflector.proofs.teller.BusyTeller.all_so_far.Goals as goal

pub returns-clause-in_turn : goal.returns-clause-in_turn
returns-clause-in_turn g c =
    let began = c.args.self.now.began.now in let telling = c.args.telling.now in
    ∥∥₁_map₂ c.args.self.now.lawful (rw c.requires at c.so_far.ensures.tells) (λ k told. λ w h sizes nothing none. (
      k.0,
      k.1,
      in_turn_with g.S.ScreenSource.looks g.S.ScreenSource.width g.S.ScreenSource.height w h sizes _ _ _
          (desk k.0 began.source.value (g.K.InputSource.taken began.taker.value) began.strokes.value)
          (desk (k.0 ++ unused ∷ g.L.Link.state telling.link ∷ []) telling.source (g.K.InputSource.taken telling.taker) telling.strokes) unused (g.L.Link.state telling.link) k.2 nothing none refl (rw c.args.self.now.fresh at told) refl,
    ))

pub returns-clause-counted : goal.returns-clause-counted
returns-clause-counted g c = ∥∥₁_map₂ c.args.self.now.counted (rw c.requires at c.so_far.ensures.counted) (λ f k. λ first. k (f first))
