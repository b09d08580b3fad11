use Rattle.std.proofs.Common.{◌≡◌, ◌∙◌, ◌≤◌, ℕ, List, length, take, Some, sym, ap}
use Rattle.std.specs.Int.{w32, from_be_bytes}
use Rattle.playback.specs.Opening.{Opened, judged_result}
use Rattle.playback.proofs.Openings.{seen_number, with_rest}
use Rattle.playback.proofs.opening.see_result.Goals as goal

pub returns : goal.returns
returns c =
    let outcome : c.judge_result.result ≡ judged_result (from_be_bytes w32 (take 4 c.args.bytes.now)) = c.judge_result.ensures ∙ (ap judged_result c.number.ensures ∙ ap (λ (xs : List ℕ). judged_result (from_be_bytes w32 xs)) c.split_at.ensures.front) in
    let long : 4 ≤ length c.args.bytes.now = c.if-bytes-lt-NUMBER_LEN.false in
    ap (λ (o : Opened). Some (with_rest c.split_at.result.1.now o)) outcome ∙ (ap (λ (xs : List ℕ). Some (with_rest xs (judged_result (from_be_bytes w32 (take 4 c.args.bytes.now))))) c.split_at.ensures.back ∙ sym (seen_number judged_result c.args.bytes.now long))
