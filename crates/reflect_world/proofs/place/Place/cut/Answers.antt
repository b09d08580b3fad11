use Rattle.std.proofs.Common.{◌≡◌, None, Option, ℕ, List, length, refl, subst, sym}
use Rattle.raster.specs.Update.{Update}
use Rattle.reflect_core.specs.Plain.{Plain}
use Rattle.viewer_session.specs.Session.{CutsAt}
use Rattle.reflect_world.specs.World.{GoesOn, Held}
use Rattle.reflect_world.proofs.Turning.{has_turned, screen_stays}
use Rattle.reflect_world.proofs.place.Place.cut.Goals as goal

pub returns-clause-screen : goal.returns-clause-screen
returns-clause-screen c =
    screen_stays c.args.screen.now c.turn_at.new.source c.self.inside.session c.turn_at.new.self _ _ _ c.in-Some.looked _ refl (λ e. (c.turn_at.ensures.idle e).2) c.in-Ok.ensures.cuts

pub returns-clause-goes_on : goal.returns-clause-goes_on
returns-clause-goes_on c =
    let old : Held = record { session = c.self.inside.session; looked = c.self.inside.looked; written = c.self.inside.written.items; unread = c.self.inside.unread } in
    let new : Held = record { session = c.turn_at.new.self; looked = None; written = c.self.inside.written.items; unread = c.self.inside.unread } in
    let us : List Update = c.args.screen.now.updates in
    let cutting : Plain → ℕ → Plain → Type 0 = λ old number new. (number ≡ length old.updates) × (new ≡ old) in
    let stays : c.turn_at.new.source ≡ c.args.screen.now =
    screen_stays c.args.screen.now c.turn_at.new.source c.self.inside.session c.turn_at.new.self _ _ _ c.in-Some.looked _ refl (λ e. (c.turn_at.ensures.idle e).2) c.in-Ok.ensures.cuts in
    subst (λ (before : Held). GoesOn before.looked before new us) c.self.view_is
    (subst (λ (looked : Option ℕ). GoesOn looked old new us) (sym c.in-Some.is)
    (has_turned cutting c.args.screen.now old c.turn_at.new.self us c.in-Some.looked
    (λ e. (c.turn_at.ensures.idle e).1)
    (λ e. subst (λ (screen : Plain). CutsAt cutting c.args.screen.now screen c.self.inside.session c.turn_at.new.self screen.updates (length us) (length screen.updates)) stays (c.in-Ok.ensures.cuts e))))
