-- The sink is the sender that came, and what it sent is what the sender has sent.
use Rattle.reflector.proofs.place.serve_from.Goals as goal

pub returns-clause-visits : goal.returns-clause-visits
returns-clause-visits g c =
    let parts = c.new-place.ensures.parts in let lent = c.new-place.ensures.lent in
    rw (c.into_sender.ensures.same, c.into_parts-door.ensures.0, c.into_parts-door.ensures.1, c.into_parts-door.ensures.2, ← c.new-inner.ensures)
    (rw (parts.0, parts.1, parts.2, lent.1, lent.2) at c.serve_viewers-left.ensures)
