use Rattle.std.proofs.Common.{◌≡◌, ◌<◌, ◌-◌, ◌∙◌, ℕ, List, length, take, drop, get_or, ap, arith, inl, inr}
use Rattle.std.proofs.lemmas.List.{take_all, length-drop}
use Rattle.std.proofs.lemmas.Bool.{cases_lt}
use Rattle.joined_runs.specs.Joined.{count_of}
use Rattle.hextile_codec.specs.Buckets.{bucket_of}
use Rattle.hextile_codec.proofs.MostFound.{count_few, best_again, grown, better, not_better, none_left, half, best_is}
use Rattle.hextile_codec.proofs.frequent.most_frequent.Goals as goal
use Rattle.hextile_codec.proofs.frequent.most_frequent.Goals.{then-most-buckets+then-value-best+then-count-most, then-most-buckets+then-value-best+else-count-most, else-most-buckets, else-most-buckets-via-else-most-buckets, else-most-buckets-via-then-most-buckets+else-value-best}

-- What is left of a list, as a slice has it.
left_is : (values : List ℕ) (at u : ℕ) → count_of (take (length values - at) (drop at values)) u ≡ count_of (drop at values) u
left_is values at u = ap (λ xs. count_of xs u) (take_all (length values - at) (drop at values) (omega (arith, length-drop at values)))

pub overflow_sub-len-in-loop-at : goal.overflow_sub-len-in-loop-at
overflow_sub-len-in-loop-at c = omega (arith, c.loop-at.invariant.count, count_few c.args.values.now c.loop-at.best)

pub loop-at-preserved : goal.loop-at-preserved
loop-at-preserved c =
    let values : List ℕ = c.args.values.now in
    let at : ℕ = c.loop-at.at in
    let inside : at < length values = omega (arith, c.loop-at-test.true) in
    elim c.if-most-buckets.branch [
      | then-most-buckets+then-value-best+then-count-most w ↦
          rw (w.best-is, w.most-is) (better values at c.loop-at.best c.loop-at.most w.count_of-count.result c.loop-at.invariant inside (w.count_of-count.ensures.count ∙ left_is values at (get_or values at 0)) (omega (arith, w.if-count-most.true)))
      | then-most-buckets+then-value-best+else-count-most w ↦
          rw (w.best-is, w.most-is) (not_better values at c.loop-at.best c.loop-at.most w.count_of-count.result c.loop-at.invariant inside (w.count_of-count.ensures.count ∙ left_is values at (get_or values at 0)) (omega (arith, w.if-count-most.false)))
      | else-most-buckets w ↦ rw (w.best-is, w.most-is) (elim w.else-most-buckets.branch [
        | else-most-buckets-via-else-most-buckets v ↦
            let u : ℕ = get_or values at 0 in
            let few = c.count_buckets-buckets.ensures.counts u in
            let place : get_or c.count_buckets-buckets.result c.bucket_of.result 0 ≡ get_or c.count_buckets-buckets.result (bucket_of u) 0 = ap (λ b. get_or c.count_buckets-buckets.result b 0) c.bucket_of.ensures.value in
            grown values at c.loop-at.best c.loop-at.most c.loop-at.invariant inside (omega (arith, few, place, v.if-most-buckets.false))
        | else-most-buckets-via-then-most-buckets+else-value-best v ↦ best_again values at c.loop-at.best c.loop-at.most c.loop-at.invariant inside v.if-value-best.false
      ])
    ]

pub returns-else-most-min : goal.returns-else-most-min
returns-else-most-min c =
    let values : List ℕ = c.args.values.now in
    best_is values c.loop-at.at c.loop-at.best c.loop-at.most c.loop-at.invariant
    (elim (cases_lt c.loop-at.most (length values - c.loop-at.at)) [
      | inl more ↦ half values c.loop-at.at c.loop-at.best c.loop-at.most c.loop-at.invariant (omega (arith, more, c.if-most-min.false, c.min.ensures))
      | inr few ↦ none_left values c.loop-at.at c.loop-at.best c.loop-at.most c.loop-at.invariant few
    ])

pub returns-after-loop-at : goal.returns-after-loop-at
returns-after-loop-at c =
    let values : List ℕ = c.args.values.now in
    best_is values c.loop-at.at c.loop-at.best c.loop-at.most c.loop-at.invariant (none_left values c.loop-at.at c.loop-at.best c.loop-at.most c.loop-at.invariant (omega (arith, c.loop-at-test.false)))
