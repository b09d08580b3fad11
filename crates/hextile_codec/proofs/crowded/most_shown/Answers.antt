use Rattle.std.proofs.Common.{◌≡◌, arith}
use Rattle.raster.specs.Screen.{Canvas, value_at, part_of}
use Rattle.hextile_codec.proofs.Shown.{first_most, new_band, same_band, most_of}
use Rattle.hextile_codec.proofs.crowded.most_shown.Goals as goal
use Rattle.hextile_codec.proofs.crowded.most_shown.Goals.{then-y-top, else-y-top}

pub loop-y-init : goal.loop-y-init
loop-y-init c =
    record {
      inside = omega arith;
      few = omega arith;
      most = first_most (part_of c.args.tile.now (value_at c.args.w c.args.values.now));
    }

pub loop-y-preserved : goal.loop-y-preserved
loop-y-preserved c =
    let canvas : Canvas = part_of c.args.tile.now (value_at c.args.w c.args.values.now) in
    elim c.if-y-top.branch [
      | then-y-top w ↦ rw (w.top-is, w.most-is) (record {
        inside = omega arith;
        few = omega (arith, c.loop-y.invariant.few);
        most = new_band canvas c.loop-y.top c.loop-y.y c.loop-y.most c.loop-y.invariant.most;
      })
      | else-y-top w ↦ rw (w.top-is, w.most-is) (record {
        inside = omega (arith, c.loop-y.invariant.inside);
        few = omega (arith, c.loop-y.invariant.few, w.count_again-most.ensures.few);
        most = same_band canvas c.loop-y.top c.loop-y.y c.loop-y.most w.count_again-most.result (omega (arith, c.loop-y.invariant.inside)) w.count_again-most.ensures.again c.loop-y.invariant.most;
      })
    ]

pub returns : goal.returns
returns c = λ v.
    let done : c.loop-y.y ≡ c.args.tile.now.h = omega (arith, c.loop-y-test.false, c.loop-y.auto.y-end) in
    most_of (part_of c.args.tile.now (value_at c.args.w c.args.values.now)) c.loop-y.top c.args.tile.now.h c.loop-y.most (rw done at c.loop-y.invariant.most) v
