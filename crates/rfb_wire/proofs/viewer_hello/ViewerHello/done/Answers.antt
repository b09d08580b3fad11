use Rattle.std.proofs.Common.{arith, ap, sym, refl, ◌∙◌, length}
use Rattle.std.proofs.lemmas.Bool.Decides.{nat_tests}
use Rattle.byte_reading.specs.Reading.{fault_of, after}
use Rattle.rfb_wire.specs.Handshake.{viewer_hello}
use Rattle.rfb_wire.proofs.Greetings.{greeting_whole, greeting_not_whole, none_is}
use Rattle.rfb_wire.proofs.viewer_hello.ViewerHello.done.Goals as goal

pub returns-then-is_full : goal.returns-then-is_full
returns-then-is_full c =
    let same = ap (λ v. length v.begun) c.self.view_is in
    none_is c.fault.result c.is_none.result c.is_none.ensures
    ∙ greeting_whole c.args.self.now.begun c.fault.result (sym c.fault.ensures) (grind (arith, nat_tests, same, c.is_full.ensures.value, c.if-is_full.true))

pub returns-else-is_full : goal.returns-else-is_full
returns-else-is_full c =
    let same = ap (λ v. length v.begun) c.self.view_is in
    c.if-is_full.false
    ∙ greeting_not_whole c.args.self.now.begun (fault_of (after viewer_hello c.args.self.now.begun)) refl (grind (arith, nat_tests, same, c.is_full.ensures.value, c.is_full.ensures.fits, c.if-is_full.false))
