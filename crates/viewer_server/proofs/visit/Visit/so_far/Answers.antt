-- What a visit keeps is more than what it promises.
use Rattle.std.proofs.Math.Logic.{∥∥₁_map}
use Rattle.viewer_server.proofs.Visited.{so_far}
use Rattle.viewer_server.proofs.visit.Visit.so_far.Goals as goal

pub returns : goal.returns
returns g c = ∥∥₁_map c.args.self.now.lawful (λ f. λ s role greet k. so_far g.S.ScreenSource.looks g.S.ScreenSource.cuts _ s _ _ _ _ _ _ c.args.self.now.is_served _ _ _ _ (f s role greet k))
