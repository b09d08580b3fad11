use Rattle.std.proofs.Common.{ℕ, List, subst}
use Rattle.std.specs.Int.{w32, w64, to_be_bytes}
use Rattle.recording.specs.Waiting.{Writes}
use Rattle.recording.proofs.Writers.{writes_two}
use Rattle.recording_index.specs.IndexBytes.{entry_bytes}
use Rattle.recording_index.proofs.moment.write_moment.Goals as goal

pub returns : goal.returns
unfolding entry_bytes
returns c =
    let time : List ℕ = to_be_bytes w32 c.args.moment.time in
    let place : List ℕ = to_be_bytes w64 c.args.moment.place in
    let front : Writes time c.args.out.now c.put-count.new.out c.put-count.result
    = subst (λ (xs : List ℕ). Writes xs c.args.out.now c.put-count.new.out c.put-count.result) c.to_be_bytes.ensures c.put-count.ensures in
    let back : Writes place c.split_at_mut-behind.result.1.now c.put.new.out c.put.result
    = subst (λ (xs : List ℕ). Writes xs c.split_at_mut-behind.result.1.now c.put.new.out c.put.result) c.to_be_bytes-2.ensures c.put.ensures in
    writes_two time place c.args.out.now c.put-count.new.out c.split_at_mut-behind.result.0.now c.split_at_mut-behind.result.1.now c.put.new.out c.put-count.result c.put.result
    front c.split_at_mut-behind.ensures.front c.split_at_mut-behind.ensures.back back
