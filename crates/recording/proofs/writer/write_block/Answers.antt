use Rattle.std.proofs.Common.{ℕ, List, ◌++◌, length, replicate, subst}
use Rattle.std.specs.Int.{w32, to_be_bytes}
use Rattle.recording.specs.Recording.{padding_len, block_bytes}
use Rattle.recording.specs.Waiting.{Writes}
use Rattle.recording.proofs.Writers.{writes_two}
use Rattle.recording.proofs.writer.write_block.Goals as goal

pub returns : goal.returns
unfolding block_bytes
returns c =
    let said : List ℕ = c.args.said.now in
    let front : Writes (to_be_bytes w32 (length said)) c.args.out.now c.put-count.new.out c.put-count.result
    = subst (λ (xs : List ℕ). Writes xs c.args.out.now c.put-count.new.out c.put-count.result) c.to_be_bytes.ensures c.put-count.ensures in
    writes_two (to_be_bytes w32 (length said)) (said ++ (replicate (padding_len (length said)) 0 ++ to_be_bytes w32 c.args.time)) c.args.out.now c.put-count.new.out c.split_at_mut-behind.result.0.now
    c.split_at_mut-behind.result.1.now c.write_body.new.out c.put-count.result c.write_body.result front c.split_at_mut-behind.ensures.front c.split_at_mut-behind.ensures.back c.write_body.ensures
