use Rattle.std.proofs.Common.{◌≡◌, ℕ, ◌<◌, List, replicate, ap, subst, ◌∙◌}
use Rattle.std.specs.Int.{w32, to_be_bytes}
use Rattle.recording.specs.Recording.{padding_len}
use Rattle.recording.specs.Waiting.{Writes}
use Rattle.recording.proofs.Writers.{writes_two, zeros}
use Rattle.recording.proofs.writer.write_end.Goals as goal

pub returns : goal.returns
returns c =
    let few : c.padding_len.result < 4 = c.padding_len.ensures.few in
    let padding : c.split_at.result.0.now ≡ replicate (padding_len c.args.len) 0 = c.split_at.ensures.front ∙ (zeros c.padding_len.result few ∙ ap (λ (n : ℕ). replicate n 0) c.padding_len.ensures.value) in
    let front : Writes (replicate (padding_len c.args.len) 0) c.args.out.now c.put-count.new.out c.put-count.result
    = subst (λ (xs : List ℕ). Writes xs c.args.out.now c.put-count.new.out c.put-count.result) padding c.put-count.ensures in
    let behind : Writes (to_be_bytes w32 c.args.time) c.split_at_mut-behind.result.1.now c.put.new.out c.put.result
    = subst (λ (xs : List ℕ). Writes xs c.split_at_mut-behind.result.1.now c.put.new.out c.put.result) c.to_be_bytes.ensures c.put.ensures in
    writes_two (replicate (padding_len c.args.len) 0) (to_be_bytes w32 c.args.time) c.args.out.now c.put-count.new.out c.split_at_mut-behind.result.0.now c.split_at_mut-behind.result.1.now c.put.new.out c.put-count.result c.put.result
    front c.split_at_mut-behind.ensures.front c.split_at_mut-behind.ensures.back behind
