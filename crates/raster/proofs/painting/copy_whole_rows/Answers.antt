use Rattle.std.proofs.Common.{arith}
use Rattle.raster.proofs.WholeRows.{rows_copied, rows_fit}
use Rattle.raster.proofs.painting.copy_whole_rows.Goals as goal

pub move_part-requires-clause-source : goal.move_part-requires-clause-source
move_part-requires-clause-source c = omega (arith, c.requires.size, rows_fit c.args.w c.args.h c.args.y c.args.area.h c.requires.source.down)

pub move_part-requires-clause-target : goal.move_part-requires-clause-target
move_part-requires-clause-target c = omega (arith, c.requires.size, rows_fit c.args.w c.args.h c.args.area.y c.args.area.h c.requires.within.down)

pub returns : goal.returns
returns c = rows_copied c.args.w c.args.h c.args.area.x c.args.area.y c.args.area.w c.args.area.h c.args.x c.args.y c.args.values.now c.move_part.new.values (omega (arith, c.requires.within.across, c.requires.whole)) (omega (arith, c.requires.source.across, c.requires.whole)) c.requires.whole c.move_part.ensures
