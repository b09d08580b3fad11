-- One host more.
use Rattle.std.proofs.Math.Logic.{∥∥₁_map, ∥∥₁_map₂}
use Rattle.reflector.specs.Tellings.{desk}
use Rattle.reflector.proofs.Telling.{noted_twice, telling_on}
use Rattle.reflector.proofs.teller.BusyTeller.close.Goals as goal

pub invariant_of-result-clause-counted : goal.invariant_of-result-clause-counted
invariant_of-result-clause-counted g c =
    let parts = c.into_parts-link.ensures in
    rw (parts.2, parts.3, parts.4) (∥∥₁_map₂ c.args.self.counted (rw c.requires.first at c.so_far.ensures.counted) (λ f k. λ first. k (f first)))

pub invariant_of-result-clause-lawful : goal.invariant_of-result-clause-lawful
invariant_of-result-clause-lawful g c =
    let began = c.args.self.began.now in let parts = c.into_parts-link.ensures in
    rw (parts.1, parts.2, parts.3)
    (∥∥₁_map c.args.self.lawful (λ k. telling_on _ _ _ _ (desk k.0 began.source.value (g.K.InputSource.taken began.taker.value) began.strokes.value) _ _ _ _ (g.L.Link.state began.link.value) (g.L.Link.state c.args.telling.link) c.args.why k.2 c.args.self.fresh c.requires.writes
    (noted_twice k.0 _ _ _ _ k.1 c.args.self.fresh (rw parts.0 at c.note.ensures))))
