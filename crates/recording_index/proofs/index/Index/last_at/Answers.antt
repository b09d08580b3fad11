use Rattle.std.proofs.Common.{◌≡◌, ℕ, ◌-◌, ◌<◌, List, length, get_or, Some, subst, ◌∙◌, arith}
use Rattle.std.proofs.lemmas.List.{get_or_default}
use Rattle.recording_index.specs.IndexReading.{IsLastAt}
use Rattle.recording_index.specs.declared.moment.KeyMoment.{KeyMoment}
use Rattle.recording_index.proofs.Looking.{is_last}
use Rattle.recording_index.proofs.index.Index.last_at.Goals as goal

pub returns-then-moment-time : goal.returns-then-moment-time
returns-then-moment-time c =
    let moments : List KeyMoment = c.as_slice-moments.result.now in
    let less : c.loop-i.i < length moments = omega (arith, c.loop-i-test.true) in
    let a : ℕ = length moments - 1 - c.loop-i.i in
    let none : KeyMoment = record { time = 0; place = 0 } in
    let x : KeyMoment = get_or moments a none in
    let within : a < length moments = omega (arith, less) in
    let same : moments ≡ c.args.self.now = c.as_slice-moments.ensures.value ∙ c.self.view_is in
    subst (λ (xs : List KeyMoment). IsLastAt xs c.args.time (Some x)) same
    (is_last moments c.args.time a x within (get_or_default moments a none x within) c.if-moment-time.true (λ k d above below. c.loop-i.invariant k d (omega (arith, above, less)) below))
