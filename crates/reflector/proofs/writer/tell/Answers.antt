-- The teller began with what came, and what it had in the end is handed out.
use Rattle.reflector.proofs.writer.tell.Goals as goal

pub returns-clause-relay : goal.returns-clause-relay
returns-clause-relay g c = let parts = c.into_parts-taker.ensures in let began = c.new-free.ensures.parts in rw parts.1 (rw began.1 at c.tell_each-left.ensures.relay)

pub returns-clause-counted : goal.returns-clause-counted
returns-clause-counted g c =
    let parts = c.into_parts-taker.ensures in let began = c.new-free.ensures.parts in
    rw (parts.1, parts.2, parts.3) (rw (began.1, began.2, began.3, c.new-drops.ensures) at c.tell_each-left.ensures.counted)

pub returns-clause-told : goal.returns-clause-told
returns-clause-told g c =
    let parts = c.into_parts-taker.ensures in let began = c.new-free.ensures.parts in
    rw (parts.1, parts.2, parts.4) (rw (began.0, began.1, began.2, c.new-free.ensures.none) at c.tell_each-left.ensures.told)
