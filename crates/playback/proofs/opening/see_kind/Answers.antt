use Rattle.std.proofs.Common.{◌≡◌, ◌∙◌, ◌≤◌, ℕ, List, length, take, Some, sym, ap}
use Rattle.std.specs.Int.{w32, from_be_bytes}
use Rattle.playback.specs.Opening.{Opened, judged_kind}
use Rattle.playback.proofs.Openings.{seen_number, with_rest}
use Rattle.playback.proofs.opening.see_kind.Goals as goal

pub returns : goal.returns
returns c =
    let outcome : c.judge_kind.result ≡ judged_kind (from_be_bytes w32 (take 4 c.args.bytes.now)) = c.judge_kind.ensures ∙ (ap judged_kind c.number.ensures ∙ ap (λ (xs : List ℕ). judged_kind (from_be_bytes w32 xs)) c.split_at.ensures.front) in
    let long : 4 ≤ length c.args.bytes.now = c.if-bytes-lt-NUMBER_LEN.false in
    ap (λ (o : Opened). Some (with_rest c.split_at.result.1.now o)) outcome ∙ (ap (λ (xs : List ℕ). Some (with_rest xs (judged_kind (from_be_bytes w32 (take 4 c.args.bytes.now))))) c.split_at.ensures.back ∙ sym (seen_number judged_kind c.args.bytes.now long))
