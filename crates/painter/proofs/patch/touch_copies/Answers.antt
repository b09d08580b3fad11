use Rattle.std.proofs.Common.{get_or, arith}
use Rattle.raster.specs.Painted.{Fits}
use Rattle.copy_log.specs.Notes.{paint_of}
use Rattle.copy_log.specs.declared.copy_rect.CopyRect.{CopyRect}
use Rattle.painter.proofs.CopyLaws.{no_copy}
use Rattle.painter.proofs.TouchLaws.{touched_more}
use Rattle.painter.proofs.patch.touch_copies.Goals as goal

pub touch-requires : goal.touch-requires
touch-requires c =
    let fits : Fits c.args.width c.args.height (paint_of (get_or c.args.copies.now c.loop-copy.copy-index no_copy)) = c.requires.copies.fit c.loop-copy.copy-index no_copy c.loop-copy-test.true in
    record {
      across = omega (arith, fits.0.across, c.requires.size.wide.1);
      down = omega (arith, fits.0.down, c.requires.size.high.1);
    }

pub loop-copy-preserved : goal.loop-copy-preserved
loop-copy-preserved c =
    touched_more (λ (q : CopyRect). q.area) c.args.grid.now c.loop-copy.grid c.touch.new.self c.args.copies.now no_copy c.loop-copy.copy-index c.args.n c.loop-copy-test.true c.loop-copy.invariant c.touch.ensures
