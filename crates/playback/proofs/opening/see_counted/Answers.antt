use Rattle.std.proofs.Common.{◌∙◌, ℕ, take, List, sym, ap}
use Rattle.byte_reading.specs.Reading.{Reading}
use Rattle.playback.specs.Opening.{Opened, offered}
use Rattle.playback.specs.Openings.{seen, after_types}
use Rattle.playback.proofs.Openings.{counted_none, counted_short, counted_then}
use Rattle.playback.proofs.opening.see_counted.Goals as goal

pub returns-then-count-eq0 : goal.returns-then-count-eq0
returns-then-count-eq0 c = sym (counted_none (after_types c.args.has_result) c.args.count c.args.bytes.now c.if-count-eq0.true)

pub returns-then-bytes-count : goal.returns-then-bytes-count
returns-then-bytes-count c = sym (counted_short (after_types c.args.has_result) c.args.count c.args.bytes.now c.if-count-eq0.false c.if-bytes-count.true)

pub returns : goal.returns
returns c =
    let next : Reading Opened = after_types c.args.has_result in
    c.see_offered.ensures ∙ (ap (λ (xs : List ℕ). seen (offered next xs) c.split_at.result.1.now) c.split_at.ensures.front
    ∙ (ap (seen (offered next (take c.args.count c.args.bytes.now))) c.split_at.ensures.back ∙ sym (counted_then next c.args.count c.args.bytes.now c.if-count-eq0.false c.if-bytes-count.false)))
