use Rattle.std.proofs.Common.{◌≡◌, ◌≢◌, ◌∙◌, ℕ, List, length, take, get_or, sym, ap, arith}
use Rattle.std.proofs.lemmas.Bool.Decides.{nat_tests}
use Rattle.byte_reading.specs.Reading.{Reading}
use Rattle.playback.specs.Opening.{Opened, counted}
use Rattle.playback.specs.Openings.{seen, after_types}
use Rattle.playback.proofs.Openings.{security_short, security_then}
use Rattle.playback.proofs.opening.see_security.Goals as goal

pub returns-then-is_empty : goal.returns-then-is_empty
returns-then-is_empty c =
    let none : length c.args.bytes.now ≡ 0 = grind (arith, nat_tests, c.is_empty.ensures, c.if-is_empty.true) in
    sym (security_short (after_types c.args.has_result) c.args.bytes.now none)

pub returns : goal.returns
returns c =
    let next : Reading Opened = after_types c.args.has_result in
    let some : length c.args.bytes.now ≢ 0 = grind (arith, nat_tests, c.is_empty.ensures, c.if-is_empty.false) in
    let first : c.from.result ≡ get_or (take 1 c.args.bytes.now) 0 0 = c.from.ensures ∙ ap (λ (xs : List ℕ). get_or xs 0 0) c.split_at.ensures.front in
    c.see_counted.ensures ∙ (ap (λ (n : ℕ). seen (counted next n) c.split_at.result.1.now) first
    ∙ (ap (seen (counted next (get_or (take 1 c.args.bytes.now) 0 0))) c.split_at.ensures.back ∙ sym (security_then next c.args.bytes.now some)))
