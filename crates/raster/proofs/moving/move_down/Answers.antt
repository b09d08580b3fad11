use Rattle.std.proofs.Common.{arith}
use Rattle.raster.proofs.Parts.{moved_behind}
use Rattle.raster.proofs.moving.move_down.Goals as goal

pub loop-moved-preserved : goal.loop-moved-preserved
loop-moved-preserved c =
    record {
      few = omega arith;
      size = omega arith;
      done = moved_behind c.args.values.now c.loop-moved.values c.move_apart_down.new.values c.args.from c.args.to c.loop-moved.moved c.min-part.result (omega (arith, c.requires.down)) c.loop-moved.invariant.done c.move_apart_down.ensures;
    }
