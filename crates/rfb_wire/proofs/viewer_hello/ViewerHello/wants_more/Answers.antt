use Rattle.std.proofs.Common.{◌≡◌, arith, ap, sym, not, refl, ◌∙◌, length}
use Rattle.std.proofs.lemmas.Bool.Decides.{nat_tests}
use Rattle.byte_reading.specs.Reading.{fault_of, after}
use Rattle.rfb_wire.specs.Handshake.{viewer_hello}
use Rattle.rfb_wire.proofs.Greetings.{greeting_wants, greeting_stops, none_is}
use Rattle.rfb_wire.proofs.viewer_hello.ViewerHello.wants_more.Goals as goal

pub returns-then-not-is_full : goal.returns-then-not-is_full
returns-then-not-is_full c =
    let same = ap (λ v. length v.begun) c.self.view_is in
    none_is c.fault.result c.is_none.result c.is_none.ensures
    ∙ greeting_wants c.args.self.now.begun c.fault.result (sym c.fault.ensures) (grind (arith, nat_tests, same, c.is_full.ensures.value, c.is_full.ensures.fits, c.if-not-is_full.true))

pub returns-else-not-is_full : goal.returns-else-not-is_full
returns-else-not-is_full c =
    let same = ap (λ v. length v.begun) c.self.view_is in
    let full : length c.args.self.now.begun ≡ 14 = grind (arith, nat_tests, same, c.is_full.ensures.value, c.if-not-is_full.false) in
    ap not c.if-not-is_full.false ∙ sym (greeting_stops c.args.self.now.begun (fault_of (after viewer_hello c.args.self.now.begun)) refl (omega (arith, full)) (omega (arith, full)))
