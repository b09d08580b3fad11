use Rattle.std.proofs.Common.{◌≡◌, ◌-◌, ap, arith}
use Rattle.rfb_wire.specs.ClientReader.{passing}
use Rattle.rfb_wire.proofs.Texts.{past_uses}
use Rattle.rfb_wire.proofs.client_reader.state.skip.Goals as goal

pub returns-then-count-left : goal.returns-then-count-left
returns-then-count-left c =
    past_uses c.args.bytes.now c.args.len (passing c.skip.new.self c.args.len) c.args.piece.now c.min-count.result (omega (arith, c.left.ensures.value, c.left.ensures.some)) c.requires (cc (c.min-count.ensures, c.left.ensures.value))
    (ap (λ k. passing k c.args.len) c.skip.ensures)

pub returns : goal.returns
returns c =
    let none : 0 ≡ c.args.bytes.now - c.min-count.result = omega (arith, c.left.ensures.value, c.left-2.ensures.value, c.if-count-left.false) in
    past_uses c.args.bytes.now c.args.len (passing 0 c.args.len) c.args.piece.now c.min-count.result (omega (arith, c.left.ensures.value, c.left.ensures.some)) c.requires (cc (c.min-count.ensures, c.left.ensures.value))
    (ap (λ k. passing k c.args.len) none)
