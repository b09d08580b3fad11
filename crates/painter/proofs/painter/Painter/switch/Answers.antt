use Rattle.std.proofs.Common.{[], ◌∷◌, subst, sym, ◌∙◌}
use Rattle.raster.specs.Screen.{Canvas}
use Rattle.raster.specs.Size.{IsScreenSize}
use Rattle.raster.specs.Switch.{switch}
use Rattle.raster.specs.Update.{after_paints, paints_of}
use Rattle.painter.specs.Painter.{IsPaintedOver, Painting}
use Rattle.painter.specs.Same.{AreSameUpdates}
use Rattle.painter.proofs.Switches.{at_size, begins_switched}
use Rattle.painter.proofs.painter.Painter.switch.Goals as goal

pub returns-clause-same : goal.returns-clause-same
returns-clause-same c =
    at_size (λ v k. (start : Canvas) → AreSameUpdates v k start (switch v k ∷ []) (c.in_ok-next.patch.update ∷ [])) c.size-width.result.0 c.size-width.result.1 c.args.self.now.width c.args.self.now.height c.size-width.ensures.0 c.size-width.ensures.1
    c.in_ok-next.ensures.same

pub returns-clause-begun : goal.returns-clause-begun
returns-clause-begun c start =
    let black = c.in_ok-next.next in
    let size = c.in_ok-next.ensures.size in
    let wide = size.0 ∙ c.size-width.ensures.0 in
    let high = size.1 ∙ c.size-width.ensures.1 in
    let large : IsScreenSize black.width black.height =
    at_size IsScreenSize c.args.self.now.width c.args.self.now.height black.width black.height (sym wide) (sym high) (subst (λ (p : Painting). IsScreenSize p.width p.height) c.self.view_is c.self.invariant.0) in
    subst (λ (p : Painting). IsPaintedOver (after_paints start (paints_of (switch c.args.self.now.width c.args.self.now.height))) [] p) (sym c.drop.view_is)
    (at_size (λ v k. IsPaintedOver (after_paints start (paints_of (switch v k))) [] black) black.width black.height c.args.self.now.width c.args.self.now.height wide high
    (begins_switched black (record { width = black.width; height = black.height }) start large c.in_ok-next.ensures.black))
