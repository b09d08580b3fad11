use Rattle.std.proofs.Common.{◌≡◌, ℕ, ◌-◌, ◌∙◌, ◌||◌, length, get_or, sym, ap, arith}
use Rattle.std.specs.Prelude.{◌==◌}
use Rattle.raster.proofs.RunCount.{begun, begun_more, all_begun, none_behind, none_first, few_bytes}
use Rattle.raster.proofs.run_count.count_long_row.Goals as goal

pub loop-x-init : goal.loop-x-init
loop-x-init c =
    record {
      inside = omega (arith, c.requires.some);
      all = λ y. let first = none_first c.args.row.now c.args.background y in omega (arith, first, c.from-others.ensures);
    }

pub loop-x-preserved : goal.loop-x-preserved
loop-x-preserved c =
    let row = c.args.row.now in
    let x : ℕ = c.loop-x.x in
    record {
      inside = omega (arith, c.loop-x-test.true);
      all = λ y.
          let here = none_behind row c.args.background y x (omega (arith, c.loop-x.auto.x)) in
          let more = begun_more row c.args.background y x in
          let so = c.loop-x.invariant.all y in
          omega (arith, here, more, so, c.from-others-in-loop-x.ensures);
    }

pub overflow_add-others : goal.overflow_add-others
overflow_add-others c =
    let few = few_bytes ((get_or c.args.row.now c.loop-x.x 0 == c.args.background) || (get_or c.args.row.now (c.loop-x.x - 1) 0 == get_or c.args.row.now c.loop-x.x 0)) in
    let so = c.loop-x.invariant.all 0 in
    record { fits = omega (arith, few, so, c.from-others-in-loop-x.ensures, c.loop-x.invariant.inside, c.requires.small) }

pub overflow_sub-result : goal.overflow_sub-result
overflow_sub-result c =
    let so = c.loop-x.invariant.all 0 in
    omega (arith, so, c.loop-x.invariant.inside)

pub returns-clause-value : goal.returns-clause-value
returns-clause-value c y =
    let end : c.loop-x.x ≡ length c.args.row.now = omega (arith, c.loop-x.invariant.inside, c.loop-x-test.false) in
    let so = c.loop-x.invariant.all y in
    let all : begun c.args.row.now c.args.background y c.loop-x.x ≡ begun c.args.row.now c.args.background y (length c.args.row.now) = ap (begun c.args.row.now c.args.background y) end in
    omega (arith, end, so, all) ∙ sym (all_begun c.args.row.now c.args.background y)
