use Rattle.std.proofs.Common.{◌≡◌, arith}
use Rattle.raster.specs.Screen.{Canvas, value_at, part_of}
use Rattle.hextile_codec.proofs.Shown.{again_on, none_again}
use Rattle.hextile_codec.proofs.crowded.count_again.Goals as goal

pub loop-n-init : goal.loop-n-init
loop-n-init c =
    record {
      few = omega arith;
      again = λ v. none_again (part_of c.args.tile.now (value_at c.args.w c.args.values.now)) v c.args.y c.args.top;
    }

pub loop-n-preserved : goal.loop-n-preserved
loop-n-preserved c =
    let canvas : Canvas = part_of c.args.tile.now (value_at c.args.w c.args.values.now) in
    record {
      few = omega (arith, c.loop-n.invariant.few, c.count_same-again.ensures.few);
      again = λ v.
          again_on canvas v c.args.y c.args.top c.row_of-row.result.now c.row_of.result.now c.loop-n.n c.loop-n.again c.count_same-again.result
          (λ x lt. c.row_of-row.ensures.values x (omega (arith, lt, c.requires.wide)))
          (λ x lt. c.row_of.ensures.values x (omega (arith, lt, c.requires.wide))) c.count_same-again.ensures.same (c.loop-n.invariant.again v);
    }

pub returns-clause-again : goal.returns-clause-again
returns-clause-again c = λ v.
    let done : c.loop-n.n ≡ c.args.count = omega (arith, c.loop-n-test.false, c.loop-n.auto.n-end) in
    rw done at (c.loop-n.invariant.again v)
