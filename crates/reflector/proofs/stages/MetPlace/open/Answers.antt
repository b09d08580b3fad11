-- The visit begins with what the place had.
use Rattle.reflector.proofs.stages.MetPlace.open.Goals as goal

pub invariant_of-place-clause-fresh : goal.invariant_of-place-clause-fresh
invariant_of-place-clause-fresh g c = rw c.requires.0 c.args.self.fresh

pub invariant_of-place-clause-stands : goal.invariant_of-place-clause-stands
invariant_of-place-clause-stands g c = rw c.requires.3 c.args.self.stands

pub invariant_of-place-clause-lawful : goal.invariant_of-place-clause-lawful
invariant_of-place-clause-lawful g c = rw (c.requires.1, c.requires.2) c.args.self.lawful
