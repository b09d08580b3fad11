use Rattle.reflector.proofs.Places.{first_left, grown, grown_by, pair_of}
use Rattle.shared_screen.proofs.Every.{all_snoc}
use Rattle.std.proofs.Common.{◌<◌, ◌∙◌, ap, arith, length, rules, sym}
use Rattle.reflector.specs.Visits.{IsOfScreen}
use Rattle.reflector.proofs.threads.start_places.Goals as goal

-- The maker is of the screen that viewers are told.
pub start_place-requires-after_bounds : goal.start_place-requires-after_bounds
start_place-requires-after_bounds g c κs within s =
    let it = c.requires.screen s in let told = c.in_ok-maker.ensures.size in (it.0 ∙ sym told.0, it.1 ∙ sym told.1)

pub loop-sender-preserved : goal.loop-sender-preserved
loop-sender-preserved g c =
    let inv = c.loop-sender.invariant in
    let steps = c.in-Some.ensures.steps.0 in let gone = ap length steps in
    let doors_here : 0 < length c.loop-sender.doors.items = omega (arith, inv.door_count, gone) in
    let watchers_here : 0 < length c.loop-sender.watchers.items = omega (arith, inv.watcher_count, gone) in
    let door = first_left _ _ _ doors_here c.remove-role.ensures.value c.remove-role.ensures.by_index.2 in
    let watcher = first_left _ _ _ watchers_here c.remove-watcher.ensures.value c.remove-watcher.ensures.by_index.2 in
    let told = c.in_ok-maker.ensures in let of = c.in_ok-place.ensures.maker in let ends = c.in_ok-place.ensures.ends in
    record {
      begun = rw c.in_ok-push.ensures.items (grown _ c.loop-sender.places.items c.in_ok-place.place c.in-Some.sender _ _ ends.2 (rw (← steps) inv.begun));
      doors = rw c.in_ok-push.ensures.items (grown_by _ c.loop-sender.places.items c.in_ok-place.place c.remove-role.result _ _ _ door (pair_of _ _ c.remove-role.result (of.0 ∙ told.named.0) ends.0) inv.doors);
      watchers = rw c.in_ok-push.ensures.items (grown_by _ c.loop-sender.places.items c.in_ok-place.place c.remove-watcher.result _ _ _ watcher ends.1 inv.watchers);
      screen = rw c.in_ok-push.ensures.items (all_snoc (λ place. IsOfScreen c.args.context.now.screen.w c.args.context.now.screen.h c.args.context.now.screen.name c.args.context.now.form c.args.context.now.host place.promise.width place.promise.height place.promise.name.value.items place.promise.form place.promise.host) c.loop-sender.places.items c.in_ok-place.place inv.screen (of.1 ∙ told.size.0, of.2 ∙ told.size.1, of.3 ∙ told.named.1, of.4 ∙ told.formed.0, of.5 ∙ told.formed.1));
      door_count = search rules;
      watcher_count = search rules;
    }
