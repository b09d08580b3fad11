use Rattle.std.proofs.Common.{ℕ, ap, ◌∙◌, arith}
use Rattle.raster.specs.Screen.{Canvas, value_at, part_of}
use Rattle.hextile_codec.proofs.Crowds.{begun_on, none_begun}
use Rattle.hextile_codec.proofs.crowded.tile_corners.Goals as goal

pub returns-then-corners-y-clause-begun : goal.returns-then-corners-y-clause-begun
returns-then-corners-y-clause-begun c = none_begun (part_of c.args.tile.now (value_at c.args.w c.args.values.now)) c.args.tile.now.h c.args.tile.now.h

pub loop-y-preserved : goal.loop-y-preserved
loop-y-preserved c =
    let canvas : Canvas = part_of c.args.tile.now (value_at c.args.w c.args.values.now) in
    let y : ℕ = c.loop-y.y in
    record {
      few = omega (arith, c.loop-y.invariant.few, c.row_corners-corners.ensures.few);
      begun =
          begun_on canvas c.args.tile.now.h y c.row_of.result.now c.row_of-in-loop-y.result.now
          (λ x lt. c.row_of.ensures.values x (omega (arith, lt, c.requires.wide)))
          (λ some x lt. c.row_of-in-loop-y.ensures.values x (omega (arith, lt, c.requires.wide)) ∙ ap (canvas x) (c.beside.ensures.above some)) c.loop-y.corners c.row_corners-corners.result c.row_corners-corners.ensures.corners c.loop-y.invariant.begun;
    }
