use Rattle.std.proofs.Common.{ℕ, List, [], ◌∷◌, Some, ap, subst, sym, ◌∙◌}
use Rattle.raster.specs.Screen.{Canvas}
use Rattle.raster.specs.Switch.{switch}
use Rattle.raster.specs.Update.{after_paints, paints_of}
use Rattle.painter.specs.Painter.{IsPaintedOver}
use Rattle.painter.specs.Same.{AreSameUpdates}
use Rattle.painter.proofs.Switches.{at_size}
use Rattle.host_decoder.specs.Decoder.{Decoding}
use Rattle.reflect_world.specs.Host.{BeginsNext, HostSide}
use Rattle.reflect_world.specs.contracts.host.Host.{the_view}
use Rattle.reflect_world.proofs.Hosts.{host_begins}
use Rattle.reflect_world.proofs.host.Host.next_host.Goals as goal

pub returns-clause-ok : goal.returns-clause-ok
returns-clause-ok c =
    let host : HostSide = the_view c.self.inside in
    let old = c.self.inside.screen.painter in
    let w : ℕ = host.decoder.width in
    let h : ℕ = host.decoder.height in
    let new : Decoding = c.next_host.new.self in
    let painter = c.switch.new.self in
    let patch = c.in_ok-patch.patch in
    let size = c.self.invariant.painter in
    let same = at_size (λ v k. (start : Canvas) → AreSameUpdates v k start (switch v k ∷ []) (patch.update ∷ [])) old.width old.height w h size.0 size.1 c.in_ok-patch.ensures.same in
    let black = at_size (λ v k. (start : Canvas) → IsPaintedOver (after_paints start (paints_of (switch v k))) [] painter) old.width old.height w h size.0 size.1 c.in_ok-patch.ensures.begun in
    let begins : BeginsNext host (record { decoder = new; painter = painter; unread = []; waiting = Some patch }) =
    host_begins host new painter patch (ap (λ (side : HostSide). side.waiting) c.self.view_is ∙ c.requires.none)
    (ap (λ (d : Decoding). d.width) c.next_host.ensures.value, ap (λ (d : Decoding). d.height) c.next_host.ensures.value)
    same black (λ start holds. c.next_host.ensures.begins start painter holds) in
    subst (λ (side : HostSide). BeginsNext side (record { decoder = new; painter = painter; unread = c.clear.new.self; waiting = Some patch })) c.self.view_is
    (subst (λ (bytes : List ℕ). BeginsNext host (record { decoder = new; painter = painter; unread = bytes; waiting = Some patch })) (sym c.clear.ensures) begins)
