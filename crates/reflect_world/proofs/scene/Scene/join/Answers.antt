use Rattle.std.proofs.Common.{subst, sym, ◌∙◌}
use Rattle.reflect_world.specs.World.{Reached, Shows, Standing}
use Rattle.reflect_world.proofs.Reaching.{joined_reaches, joined_shows}
use Rattle.reflect_world.proofs.scene.Scene.join.Goals as goal

pub returns-clause-ok : goal.returns-clause-ok
returns-clause-ok c =
    λ s w named formed untold r.
    joined_reaches (record { screen = c.self.inside.screen; host = c.self.inside.host; host_fault = c.self.inside.host_fault; places = c.self.inside.places.items; room = c.self.inside.room; relay = c.self.inside.relay }) c.args.viewer c.args.name.now c.args.runs c.args.role c.args.greet c.in_ok-place.place c.requires.there c.in_ok-place.ensures.fresh.0 c.in_ok-place.ensures.fresh.1 c.in_ok-place.ensures.fresh.2 c.in_ok-place.ensures.uncut
    (λ s' width height name runs host. c.in_ok-place.ensures.stands s' (width ∙ sym c.size-width.ensures.0) (height ∙ sym c.size-width.ensures.1) name runs host) s w named formed untold
    (subst (λ (standing : Standing). Reached s standing w) (sym c.self.view_is) r)

pub returns-clause-shows : goal.returns-clause-shows
returns-clause-shows c =
    λ s w named formed untold shown.
    joined_shows (record { screen = c.self.inside.screen; host = c.self.inside.host; host_fault = c.self.inside.host_fault; places = c.self.inside.places.items; room = c.self.inside.room; relay = c.self.inside.relay }) c.args.viewer c.args.name.now c.args.runs c.args.role c.args.greet c.in_ok-place.place c.requires.there c.in_ok-place.ensures.fresh.1
    (λ s' width height name runs host. c.in_ok-place.ensures.stands s' (width ∙ sym c.size-width.ensures.0) (height ∙ sym c.size-width.ensures.1) name runs host) s w named formed untold
    (subst (λ (standing : Standing). Shows s standing w) (sym c.self.view_is) shown)
