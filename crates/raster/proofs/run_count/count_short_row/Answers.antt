use Rattle.std.proofs.Common.{◌≡◌, ℕ, ◌+◌, ◌-◌, ◌∙◌, not, ◌&&◌, length, get_or, refl, sym, ap, arith}
use Rattle.std.specs.Prelude.{◌==◌}
use Rattle.raster.proofs.RunCount.{begun, begun_more, all_begun, begins_at, few_bytes}
use Rattle.raster.proofs.run_count.count_short_row.Goals as goal

pub loop-x-preserved : goal.loop-x-preserved
loop-x-preserved c =
    let row = c.args.row.now in
    let x : ℕ = c.loop-x.x in
    let a = get_or row x 0 == c.args.background in
    let b = c.loop-x.before == get_or row x 0 in
    let few = few_bytes (not a && not b) in
    record {
      few = omega (arith, few, c.from-count.ensures, c.loop-x.invariant.few);
      first = λ e. absurd (omega (arith, e));
      behind = λ _. let back : x + 1 - 1 ≡ x = omega arith in rw back refl;
      is = λ y.
          let test = c.from-count.ensures ∙ begins_at row c.args.background y x c.loop-x.before c.loop-x.invariant.first c.loop-x.invariant.behind in
          let more = begun_more row c.args.background y x in
          let so = c.loop-x.invariant.is y in
          omega (arith, test, more, so);
    }

pub returns-clause-value : goal.returns-clause-value
returns-clause-value c y =
    let end : c.loop-x.x ≡ length c.args.row.now = omega arith in
    c.loop-x.invariant.is y ∙ (ap (begun c.args.row.now c.args.background y) end ∙ sym (all_begun c.args.row.now c.args.background y))
