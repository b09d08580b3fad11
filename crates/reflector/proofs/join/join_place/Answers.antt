-- The promise holds over each list that begins with what the place knew in the end, and so over what it knows now.
use Rattle.std.proofs.Common.{[], sym, append-nil}
use Rattle.reflector.proofs.Watching.{sends_nothing}
use Rattle.reflector.proofs.join.join_place.Goals as goal

pub returns-clause-promise : goal.returns-clause-promise
returns-clause-promise g c = (c.join-door.result.watcher, c.meet.ensures.mine, c.meet.ensures.one, c.join-door.ensures.2 c.meet.new.self.updates c.meet.ensures.mine)

-- Nothing is allowed to a viewer that only looks on.
pub returns-clause-view : goal.returns-clause-view
returns-clause-view g c = λ looks_on. sends_nothing _ _ _ _ _ looks_on _ _ (c.join-door.ensures.2 c.join-door.result.watcher.updates ([], sym (append-nil _)))

-- The place's promise has each look and each cut.
pub returns-clause-shown : goal.returns-clause-shown
returns-clause-shown g c = (c.join-door.result.watcher, c.meet.ensures.mine, c.join-door.ensures.1)
