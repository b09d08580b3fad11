use Rattle.std.proofs.Common.{◌∙◌, arith}
use Rattle.copy_log.specs.declared.copy_rect.CopyRect.{CopyRect}
use Rattle.copy_log.specs.Notes.{IsSameScreen, PassedOn, passed_in}
use Rattle.copy_log.proofs.Adding.{copy_more}
use Rattle.copy_log.proofs.passed.Passed.pass_copies.Goals as goal

pub loop-copy-preserved : goal.loop-copy-preserved
loop-copy-preserved c =
    let old : PassedOn = c.args.self.now in
    let mid : PassedOn = c.loop-copy.self in
    let new : PassedOn = c.pass_copy.new.self in
    let size : IsSameScreen old mid = c.loop-copy.invariant.size in
    let none : CopyRect = record { area = record { x = 0; y = 0; w = 0; h = 0 }; x = 0; y = 0 } in
    record {
      size = record { width = c.pass_copy.ensures.size.width ∙ size.width; height = c.pass_copy.ensures.size.height ∙ size.height };
      few = omega (arith, c.pass_copy.ensures.few, c.loop-copy.invariant.few);
      passed = copy_more old.width old.height c.args.area.now (passed_in old) mid new c.args.copies.now c.loop-copy.copy-index none size.width size.height c.loop-copy-test.true c.loop-copy.invariant.passed c.pass_copy.ensures.passed;
    }
