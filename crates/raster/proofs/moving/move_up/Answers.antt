use Rattle.std.proofs.Common.{arith, ◌≡◌, ◌+◌, ◌-◌}
use Rattle.raster.proofs.Parts.{moved_before}
use Rattle.raster.proofs.moving.move_up.Goals as goal

pub loop-left-preserved : goal.loop-left-preserved
loop-left-preserved c =
    let source : c.args.from + c.loop-left.left ≡ c.args.from + (c.loop-left.left - c.min-part.result) + c.min-part.result = omega arith in
    let place : c.args.to + c.loop-left.left ≡ c.args.to + (c.loop-left.left - c.min-part.result) + c.min-part.result = omega arith in
    let rest : c.args.count - (c.loop-left.left - c.min-part.result) ≡ c.min-part.result + (c.args.count - c.loop-left.left) = omega arith in
    record {
      few = omega arith;
      size = omega arith;
      done = rw rest (moved_before c.args.values.now c.loop-left.values c.move_apart_up.new.values (c.args.from + (c.loop-left.left - c.min-part.result)) (c.args.to + (c.loop-left.left - c.min-part.result)) c.min-part.result (c.args.count - c.loop-left.left) (omega (arith, c.requires.up)) (rw (source, place) at c.loop-left.invariant.done) c.move_apart_up.ensures);
    }
