use Rattle.std.proofs.Common.{arith, inl, ◌≡◌, ◌+◌, ◌-◌, ◌<◌, ◌∙◌}
use Rattle.raster.proofs.Rows.{start_fits, place_fits, row_fits, copy_more_above, copy_untouched}
use Rattle.raster.proofs.painting.copy_from_bottom.Goals as goal

pub overflow_mul-from : goal.overflow_mul-from
overflow_mul-from c = start_fits c.args.w c.args.h (c.args.y + (c.loop-row.row - 1)) c.args.x c.args.area.w c.requires.small (omega (arith, c.requires.source.down)) c.requires.source.across

pub overflow_add-from-in-loop-row : goal.overflow_add-from-in-loop-row
overflow_add-from-in-loop-row c = place_fits c.args.w c.args.h (c.args.y + (c.loop-row.row - 1)) c.args.x c.args.area.w c.requires.small (omega (arith, c.requires.source.down)) c.requires.source.across

pub overflow_mul-to : goal.overflow_mul-to
overflow_mul-to c = start_fits c.args.w c.args.h (c.args.area.y + (c.loop-row.row - 1)) c.args.area.x c.args.area.w c.requires.small (omega (arith, c.requires.within.down)) c.requires.within.across

pub overflow_add-to-in-loop-row : goal.overflow_add-to-in-loop-row
overflow_add-to-in-loop-row c = place_fits c.args.w c.args.h (c.args.area.y + (c.loop-row.row - 1)) c.args.area.x c.args.area.w c.requires.small (omega (arith, c.requires.within.down)) c.requires.within.across

pub move_part-requires-clause-source : goal.move_part-requires-clause-source
move_part-requires-clause-source c =
    let row : c.args.y + (c.loop-row.row - 1) < c.args.h = omega (arith, c.requires.source.down) in
    omega (arith, c.loop-row.invariant.size, row_fits c.args.w c.args.h (c.args.y + (c.loop-row.row - 1)) c.args.x c.args.area.w row c.requires.source.across)

pub move_part-requires-clause-target : goal.move_part-requires-clause-target
move_part-requires-clause-target c =
    let row : c.args.area.y + (c.loop-row.row - 1) < c.args.h = omega (arith, c.requires.within.down) in
    omega (arith, c.loop-row.invariant.size, row_fits c.args.w c.args.h (c.args.area.y + (c.loop-row.row - 1)) c.args.area.x c.args.area.w row c.requires.within.across)

pub loop-row-preserved : goal.loop-row-preserved
loop-row-preserved c =
    let top : c.args.area.y + c.loop-row.row ≡ c.args.area.y + (c.loop-row.row - 1) + 1 = omega arith in
    let source : c.args.y + c.loop-row.row ≡ c.args.y + (c.loop-row.row - 1) + 1 = omega arith in
    let rows : c.args.area.h - (c.loop-row.row - 1) ≡ c.args.area.h - c.loop-row.row + 1 = omega arith in
    let shows = rw (top, source) at c.loop-row.invariant.shows in
    record {
      size = omega arith;
      shows = rw rows
          (copy_more_above c.args.w c.args.h c.args.area.x (c.args.area.y + (c.loop-row.row - 1)) c.args.area.w (c.args.area.h - c.loop-row.row) c.args.x (c.args.y + (c.loop-row.row - 1)) c.args.values.now c.loop-row.values c.move_part.new.values c.requires.within.across (omega (arith, c.requires.within.down)) shows
          (λ k lt. c.move_part.ensures.inside k lt
          ∙ copy_untouched c.args.w c.args.h c.args.area.x (c.args.area.y + (c.loop-row.row - 1) + 1) c.args.area.w (c.args.area.h - c.loop-row.row) c.args.x (c.args.y + (c.loop-row.row - 1) + 1) c.args.x (c.args.y + (c.loop-row.row - 1)) k c.loop-row.values c.args.values.now shows (omega (arith, c.requires.source.across)) (omega (arith, c.requires.source.down)) (inl (omega arith)))
          c.move_part.ensures.below
          c.move_part.ensures.past);
    }

pub returns : goal.returns
returns c =
    let none : c.loop-row.row ≡ 0 = omega arith in
    let top : c.args.area.y + c.loop-row.row ≡ c.args.area.y = omega arith in
    let source : c.args.y + c.loop-row.row ≡ c.args.y = omega arith in
    let rows : c.args.area.h - c.loop-row.row ≡ c.args.area.h = omega arith in
    rw (top, source, rows) at c.loop-row.invariant.shows
