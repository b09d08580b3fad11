use Rattle.std.proofs.Common.{◌≡◌, [], ◌∷◌, sym, ◌∙◌}
use Rattle.raster.specs.Screen.{Canvas, opening}
use Rattle.raster.specs.Size.{IsScreenSize}
use Rattle.raster.specs.Switch.{switch_to}
use Rattle.raster.specs.Update.{paints_of}
use Rattle.painter.specs.Painter.{IsPaintedOver}
use Rattle.painter.specs.Same.{AreSameUpdates}
use Rattle.painter.proofs.Switches.{at_size, begins_black, patch_switches}
use Rattle.painter.proofs.painter.Painter.black.Goals as goal

-- The black screen before its patch, and its size.
painted : (c : goal.In_ok-patch) → IsPaintedOver opening (paints_of (switch_to c.args.size)) c.resize.new.self
painted c = c.resize.ensures.painted opening [] c.in_ok-black.ensures.black

wide : (c : goal.In_ok-patch) → c.resize.new.self.width ≡ c.args.width
wide c = c.resize.ensures.size.width ∙ c.in_ok-black.ensures.size.0

high : (c : goal.In_ok-patch) → c.resize.new.self.height ≡ c.args.height
high c = c.resize.ensures.size.height ∙ c.in_ok-black.ensures.size.1

large : (c : goal.In_ok-patch) → IsScreenSize c.resize.new.self.width c.resize.new.self.height
large c = let end = c.resize.new.self in at_size IsScreenSize c.args.width c.args.height end.width end.height (sym (wide c)) (sym (high c)) c.requires.screen

pub returns-clause-same : goal.returns-clause-same
returns-clause-same c =
    let end = c.resize.new.self in
    at_size (λ v k. (start : Canvas) → AreSameUpdates v k start (switch_to c.args.size ∷ []) (c.in_ok-patch.patch.update ∷ [])) end.width end.height c.args.width c.args.height (wide c) (high c)
    (patch_switches end c.args.size (c.in_ok-patch.patch.update ∷ []) (large c) (painted c) c.in_ok-patch.ensures.same)

pub returns-clause-black : goal.returns-clause-black
returns-clause-black c =
    begins_black c.resize.new.self c.patch.new.self c.args.size (large c) (painted c) c.in_ok-patch.ensures.begun
