use Rattle.std.proofs.Common.{◌≡◌, ℕ, ◌+◌, ◌*◌, ◌<◌, List, ◌++◌, length, take, sym, ap, ◌∙◌, length-append, arith}
use Rattle.std.proofs.lemmas.Bool.{eqb-false}
use Rattle.std.proofs.lemmas.List.{take-append-drop}
use Rattle.host_decoder.proofs.RawRows.{put_more, put_none}
use Rattle.host_decoder.proofs.raw_data.put_pixels.Goals as goal

pub loop-left-init : goal.loop-left-init
loop-left-init c = put_none c.args.painter.now c.args.done c.args.pixels.now

pub loop-left-preserved : goal.loop-left-preserved
loop-left-preserved c =
    let p = c.loop-left.invariant in
    let area = c.args.painter.now.area in
    let left : List (List ℕ) = c.loop-left.left.now in
    let row : List (List ℕ) = c.split_at.result.0.now in
    let all : length p.front + length left ≡ length c.args.pixels.now = sym (length-append p.front left) ∙ ap (λ (t : List (List ℕ)). length t) p.joined in
    let lt : c.loop-left.at < area.w * area.h = omega (arith, p.count, all, c.requires.within, eqb-false (length left) 0 (sym c.is_empty.ensures ∙ c.loop-left-test.true)) in
    let split : row ++ c.split_at.result.1.now ≡ left =
    ap (λ (t : List (List ℕ)). t ++ c.split_at.result.1.now) c.split_at.ensures.front ∙ (ap (λ (t : List (List ℕ)). take c.min.result left ++ t) c.split_at.ensures.back ∙ take-append-drop c.min.result left) in
    put_more c.args.painter.now c.loop-left.painter c.put_bytes.new.self c.args.width c.args.done c.loop-left.at c.args.pixels.now left row c.split_at.result.1.now c.requires.width p split lt (omega (arith, c.split_at.ensures.front_len, c.min.ensures)) c.put_bytes.ensures.stays c.put_bytes.ensures.shows
