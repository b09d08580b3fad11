use Rattle.std.proofs.Common.{◌∙◌, ℕ, List, take, sym, ap}
use Rattle.playback.specs.Opening.{by_version}
use Rattle.playback.specs.Openings.{seen}
use Rattle.playback.proofs.Openings.{version_short, version_then}
use Rattle.playback.proofs.opening.see_opening.Goals as goal

pub returns-then-bytes-lt-VERSION_LEN : goal.returns-then-bytes-lt-VERSION_LEN
returns-then-bytes-lt-VERSION_LEN c = sym (version_short c.args.bytes.now c.if-bytes-lt-VERSION_LEN.true)

pub returns : goal.returns
returns c =
    c.see_by_version.ensures ∙ (ap (λ (xs : List ℕ). seen (by_version xs) c.split_at.result.1.now) c.split_at.ensures.front
    ∙ (ap (seen (by_version (take 12 c.args.bytes.now))) c.split_at.ensures.back ∙ sym (version_then c.args.bytes.now c.if-bytes-lt-VERSION_LEN.false)))
