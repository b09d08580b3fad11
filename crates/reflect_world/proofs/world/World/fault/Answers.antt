use Rattle.std.proofs.Common.{◌≡◌, Some, sym, ap, ◌∙◌}
use Rattle.std.specs.Option.{option_copied}
use Rattle.reflect_world.specs.Schedule.{fault_at}
use Rattle.reflect_world.specs.World.{Kept, PlaceShows, place_at, setup_of, world_of}
use Rattle.reflect_world.proofs.Places.{place_is_some}
use Rattle.reflect_world.specs.contracts.world.World.{the_view}
use Rattle.reflect_world.proofs.world.World.fault.Goals as goal

pub returns-in-Some : goal.returns-in-Some
returns-in-Some c =
    let k = the_view c.self.inside in
    let there : place_at c.self.inside.scene.places c.args.viewer ≡ Some c.in-Some.place.now = sym c.place.ensures ∙ ap option_copied c.in-Some.is in
    let it = place_is_some (PlaceShows (setup_of k)) (place_at c.self.inside.scene.places c.args.viewer) ((world_of k).viewers c.args.viewer) c.in-Some.place.now (c.self.invariant.shows.places c.args.viewer) there in
    c.fault.ensures ∙ (it.2.fault ∙ (ap fault_at (sym it.1) ∙ ap (λ (kept : Kept). fault_at ((world_of kept).viewers c.args.viewer)) c.self.view_is))
