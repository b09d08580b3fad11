use Rattle.std.proofs.Common.{◌∙◌, Bool, Ok, sym, ap}
use Rattle.playback.specs.Openings.{seen, after_types}
use Rattle.playback.proofs.Openings.{offered_none, offered_some, seen_done}
use Rattle.playback.proofs.opening.see_offered.Goals as goal

pub returns-then-not-contains : goal.returns-then-not-contains
returns-then-not-contains c = sym (offered_none (after_types c.args.has_result) c.args.types.now c.args.rest.now (sym c.contains.ensures.value ∙ c.if-not-contains.true))

pub returns-then-not-has_result : goal.returns-then-not-has_result
returns-then-not-has_result c =
    sym (offered_some (after_types c.args.has_result) c.args.types.now c.args.rest.now (sym c.contains.ensures.value ∙ c.if-not-contains.false)
    ∙ (ap (λ (b : Bool). seen (after_types b) c.args.rest.now) c.if-not-has_result.true ∙ seen_done (Ok tt) c.args.rest.now))

pub returns : goal.returns
returns c =
    c.see_result.ensures ∙ sym (offered_some (after_types c.args.has_result) c.args.types.now c.args.rest.now (sym c.contains.ensures.value ∙ c.if-not-contains.false)
    ∙ ap (λ (b : Bool). seen (after_types b) c.args.rest.now) c.if-not-has_result.false)
