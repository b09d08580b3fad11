use Rattle.std.proofs.Common.{◌≡◌, ◌+◌, ◌-◌, ℕ, List, slice_index, set, ◌∙◌, ap, refl, arith}
use Rattle.std.proofs.lemmas.List.{get_or-set_same}
use Rattle.zrle_codec.proofs.Paletted.{no_indices, index_known, index_new}
use Rattle.zrle_codec.proofs.palette.index_values.Goals as goal

pub loop-k-init : goal.loop-k-init
loop-k-init c =
    record {
      indexed = no_indices c.args.values.now c.args.palette.now c.args.indices.now;
      last = λ lt. absurd (omega (arith, lt));
    }

pub loop-k-preserved-then-index-count : goal.loop-k-preserved-then-index-count
loop-k-preserved-then-index-count c =
    let values : List ℕ = c.args.values.now in
    let i : ℕ = c.next_index-index.result in
    let here : c.loop-k.k ≡ c.loop-k.k + 1 - 1 = omega arith in
    let is : slice_index c.loop-k.palette i ≡ slice_index values c.loop-k.k = c.next_index-index.ensures.found (omega arith) in
    record {
      indexed = index_known values c.loop-k.palette c.loop-k.indices c.loop-k.count c.loop-k.k i (omega arith) (omega arith) is c.loop-k.invariant.indexed;
      last = λ lt. (omega arith, is ∙ ap (λ n. slice_index values n) here);
    }

pub loop-k-preserved : goal.loop-k-preserved
loop-k-preserved c =
    let values : List ℕ = c.args.values.now in
    let v : ℕ = slice_index values c.loop-k.k in
    let more : List ℕ = set c.loop-k.palette c.loop-k.count v in
    let here : c.loop-k.k ≡ c.loop-k.k + 1 - 1 = omega arith in
    let new : c.next_index-index.result ≡ c.loop-k.count = omega (arith, c.next_index-index.ensures.within) in
    let put : slice_index more c.loop-k.count ≡ v = get_or-set_same c.loop-k.palette c.loop-k.count v 0 (omega arith) in
    record {
      indexed = index_new values c.loop-k.palette c.loop-k.indices c.loop-k.count c.loop-k.k v (omega arith) (omega arith) (omega arith) refl c.loop-k.invariant.indexed;
      last = λ lt. (omega (arith, new), ap (λ n. slice_index more n) new ∙ (put ∙ ap (λ n. slice_index values n) here));
    }
