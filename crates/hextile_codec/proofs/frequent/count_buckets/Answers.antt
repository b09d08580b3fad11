use Rattle.std.proofs.Common.{◌∙◌, ℕ, ◌+◌, ◌<◌, List, length, get_or, refl, arith}
use Rattle.std.proofs.lemmas.List.{length-set}
use Rattle.hextile_codec.specs.Buckets.{bucket_of}
use Rattle.hextile_codec.proofs.Buckets.{none_counted, one_counted, one_more}
use Rattle.hextile_codec.proofs.frequent.count_buckets.Goals as goal

pub loop-value-init : goal.loop-value-init
loop-value-init c = record { len = refl; few = λ b. let none = none_counted 64 b in omega (arith, none); counts = λ v. omega arith }

pub loop-value-preserved : goal.loop-value-preserved
loop-value-preserved c =
    let values : List ℕ = c.args.values.now in
    let counts : List ℕ = c.loop-value.counts in
    let i : ℕ = c.loop-value.value-index in
    let k : ℕ = bucket_of (get_or values i 0) in
    let fits : c.bucket_of.result < length counts = omega (arith, c.bucket_of.ensures.few, c.loop-value.invariant.len) in
    let inside : k < length counts = rw c.bucket_of.ensures.value at fits in
    rw c.bucket_of.ensures.value (record {
      len = length-set counts k (get_or counts k 0 + 1) ∙ c.loop-value.invariant.len;
      few = one_more counts k i inside c.loop-value.invariant.few;
      counts = one_counted values counts i c.loop-value-test.true inside c.loop-value.invariant.counts;
    })
