-- What the thread's body asks is what the call of it asks: first the bounds, then the size.
use Rattle.std.proofs.Common.{rules}
use Rattle.reflector.proofs.place.fn.start_place.spawn_with+FnOnce.call_once.Goals as goal

pub spawn_with-requires : goal.spawn_with-requires
spawn_with-requires g c = let asked = c.requires.1.1.1.1 in let screen = asked.0 in let bounds = asked.1 in search rules
