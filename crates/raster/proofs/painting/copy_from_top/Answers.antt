use Rattle.std.proofs.Common.{arith, inr, sym, ◌+◌, ◌*◌, ◌<◌, ◌∙◌}
use Rattle.raster.specs.Screen.{value_at}
use Rattle.raster.proofs.Rows.{start_fits, place_fits, row_fits, lay_more, copy_untouched, part_row, part_at}
use Rattle.raster.proofs.painting.copy_from_top.Goals as goal

pub overflow_mul-from : goal.overflow_mul-from
overflow_mul-from c = start_fits c.args.w c.args.h (c.args.y + c.loop-row.row) c.args.x c.args.area.w c.requires.small (omega (arith, c.requires.source.down)) c.requires.source.across

pub overflow_add-from-in-loop-row : goal.overflow_add-from-in-loop-row
overflow_add-from-in-loop-row c = place_fits c.args.w c.args.h (c.args.y + c.loop-row.row) c.args.x c.args.area.w c.requires.small (omega (arith, c.requires.source.down)) c.requires.source.across

pub overflow_mul-to : goal.overflow_mul-to
overflow_mul-to c = start_fits c.args.w c.args.h (c.args.area.y + c.loop-row.row) c.args.area.x c.args.area.w c.requires.small (omega (arith, c.requires.within.down)) c.requires.within.across

pub overflow_add-to-in-loop-row : goal.overflow_add-to-in-loop-row
overflow_add-to-in-loop-row c = place_fits c.args.w c.args.h (c.args.area.y + c.loop-row.row) c.args.area.x c.args.area.w c.requires.small (omega (arith, c.requires.within.down)) c.requires.within.across

pub move_part-requires-clause-source : goal.move_part-requires-clause-source
move_part-requires-clause-source c =
    let row : c.args.y + c.loop-row.row < c.args.h = omega (arith, c.requires.source.down) in
    omega (arith, c.loop-row.invariant.size, row_fits c.args.w c.args.h (c.args.y + c.loop-row.row) c.args.x c.args.area.w row c.requires.source.across)

pub move_part-requires-clause-target : goal.move_part-requires-clause-target
move_part-requires-clause-target c =
    let row : c.args.area.y + c.loop-row.row < c.args.h = omega (arith, c.requires.within.down) in
    omega (arith, c.loop-row.invariant.size, row_fits c.args.w c.args.h (c.args.area.y + c.loop-row.row) c.args.area.x c.args.area.w row c.requires.within.across)

pub loop-row-preserved : goal.loop-row-preserved
loop-row-preserved c =
    record {
      size = omega arith;
      shows = lay_more c.args.w c.args.h c.args.area.x c.args.area.y c.args.area.w c.loop-row.row (λ a b. value_at c.args.w c.args.values.now (c.args.x + a) (c.args.y + b)) (value_at c.args.w c.args.values.now) c.loop-row.values c.move_part.new.values
          (part_row c.args.values.now ((c.args.y + c.loop-row.row) * c.args.w + c.args.x) c.args.area.w) c.requires.within.across (omega (arith, c.requires.within.down)) c.loop-row.invariant.shows
          (λ k lt. c.move_part.ensures.inside k lt
          ∙ (copy_untouched c.args.w c.args.h c.args.area.x c.args.area.y c.args.area.w c.loop-row.row c.args.x c.args.y c.args.x (c.args.y + c.loop-row.row) k c.loop-row.values c.args.values.now c.loop-row.invariant.shows (omega (arith, c.requires.source.across)) (omega (arith, c.requires.source.down)) (inr (omega arith))
          ∙ sym (part_at c.args.values.now c.args.w c.args.x (c.args.y + c.loop-row.row) c.args.area.w k lt)))
          (λ k lt. part_at c.args.values.now c.args.w c.args.x (c.args.y + c.loop-row.row) c.args.area.w k lt)
          c.move_part.ensures.below
          c.move_part.ensures.past;
    }
