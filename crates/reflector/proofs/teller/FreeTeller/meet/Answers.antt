-- The link that came is noted, and the telling begins with what the teller had.
use Rattle.std.proofs.Math.Logic.{∥∥₁_map}
use Rattle.run_traits.specs.LinkTrails.{links_in}
use Rattle.reflector.proofs.teller.FreeTeller.meet.Goals as goal

pub invariant_of-busy-clause-fresh : goal.invariant_of-busy-clause-fresh
invariant_of-busy-clause-fresh g c = rw c.requires.0 c.args.came.fresh

pub invariant_of-busy-clause-counted : goal.invariant_of-busy-clause-counted
invariant_of-busy-clause-counted g c = rw (c.requires.2, c.requires.3, c.requires.4) c.args.self.counted

pub invariant_of-busy-clause-lawful : goal.invariant_of-busy-clause-lawful
invariant_of-busy-clause-lawful g c =
    rw (c.requires.1, c.requires.2, c.requires.3)
    (∥∥₁_map c.args.self.lawful (λ k. (links_in g.L.Link.state c.args.self.told_links, rw (← c.args.came.fresh, ← c.open-link.ensures) c.note.ensures, k)))
