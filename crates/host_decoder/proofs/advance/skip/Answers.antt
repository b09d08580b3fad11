use Rattle.std.proofs.Common.{◌≡◌, ◌-◌, ap, sym, subst, arith}
use Rattle.host_decoder.specs.Decoder.{StandsUnpainted, passing}
use Rattle.host_decoder.specs.declared.state.HostState.TheVariants as state
use Rattle.host_decoder.proofs.Steps.{past_uses}
use Rattle.host_decoder.proofs.advance.skip.Goals as goal

pub returns-then-count-left-clause-uses : goal.returns-then-count-left-clause-uses
returns-then-count-left-clause-uses c painter start r s =
    past_uses painter c.args.past.now c.args.what (state.Passing c.args.what c.skip.new.self) c.args.bytes.now c.min-count.result start r s.0 s.2 (cc (c.min-count.ensures, c.left.ensures.value))
    (λ screen shown none. (none, omega (arith, c.skip.ensures, c.left-2.ensures.value), ap (λ k. passing k c.args.what) (sym c.skip.ensures)))

pub returns-clause-uses : goal.returns-clause-uses
returns-clause-uses c painter start r s =
    let over : 0 ≡ c.args.past.now - c.min-count.result = omega (arith, c.left.ensures.value, c.left-2.ensures.value, c.if-count-left.false) in
    past_uses painter c.args.past.now c.args.what (state.Whole c.event.result) c.args.bytes.now c.min-count.result start r s.0 s.2 (cc (c.min-count.ensures, c.left.ensures.value))
    (subst (λ n. StandsUnpainted painter.width painter.height (state.Whole c.event.result) (passing n c.args.what)) over (c.event.ensures painter.width painter.height))
