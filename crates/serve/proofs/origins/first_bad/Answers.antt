-- One more text is an origin; in the end each is.
use Rattle.std.proofs.Common.{length, ℕ, subst, sym, take}
use Rattle.std.specs.String.{string_bytes}
use Rattle.std.proofs.lemmas.List.{take_all}
use Rattle.std.proofs.lemmas.List.Elements.{All-more, All-same}
use Rattle.serve.specs.Origins.{IsAnOrigin}
use Rattle.serve.proofs.origins.first_bad.Goals as goal

pub loop-number-preserved : goal.loop-number-preserved
loop-number-preserved c =
    let item = c.index-origins-number in
    All-more (λ origin. IsAnOrigin (string_bytes origin)) c.args.origins.now c.loop-number.number item.result c.loop-number-test.true c.loop-number.invariant
    (subst (λ origin. IsAnOrigin (string_bytes origin)) item.is (subst IsAnOrigin c.as_str.ensures.value (c.is_origin.ensures.0 c.if-not-is_origin.false)))

pub returns : goal.returns
returns c =
    All-same (λ origin. IsAnOrigin (string_bytes origin)) c.args.origins.now (take c.loop-number.number c.args.origins.now) (sym (take_all c.loop-number.number c.args.origins.now c.loop-number-test.false)) c.loop-number.invariant
