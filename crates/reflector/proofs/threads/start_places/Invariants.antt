use Rattle.std.proofs.Common.{◌≡◌, ◌++◌, map, length}
use Rattle.std.specs.List.{All}
use Rattle.std.specs.Vec.Iter.{into_iter_items}
use Rattle.reflector.specs.Visits.{IsOfScreen}
use Rattle.reflector.proofs.threads.start_places.Given as goal

-- The places that were started have the first senders, doors and watchers, and there is a door and a watcher for each
-- of the other senders.
abbrev pub invariant-loop-sender : goal.invariant-loop-sender
invariant-loop-sender g l = record {
  begun : map (λ place. place.promise.sender.value) l.places.items ++ into_iter_items l.sender-iterator ≡ l.fn.senders.items;
  doors : map (λ place. (place.promise.role, place.promise.door.value)) l.places.items ++ l.doors.items ≡ l.fn.doors.items;
  watchers : map (λ place. place.promise.watcher.value) l.places.items ++ l.watchers.items ≡ l.fn.watchers.items;
  screen : All (λ place. IsOfScreen l.fn.context.screen.w l.fn.context.screen.h l.fn.context.screen.name l.fn.context.form l.fn.context.host place.promise.width place.promise.height place.promise.name.value.items place.promise.form place.promise.host) l.places.items;
  door_count : length l.doors.items ≡ length (into_iter_items l.sender-iterator);
  watcher_count : length l.watchers.items ≡ length (into_iter_items l.sender-iterator);
}
