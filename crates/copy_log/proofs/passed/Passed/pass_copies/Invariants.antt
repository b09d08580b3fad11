use Rattle.std.proofs.Common.{◌+◌, ◌≤◌, length, take}
use Rattle.copy_log.specs.Notes.{IsSameScreen, paints, passed_in}
use Rattle.copy_log.specs.Passed.{IsSamePassed, passed_after_paints}
use Rattle.copy_log.proofs.passed.Passed.pass_copies.Given as goal

abbrev pub invariant-loop-copy : goal.invariant-loop-copy
invariant-loop-copy l =
    record {
      size : IsSameScreen l.fn.self l.self;
      few : length l.self.copies ≤ length l.fn.self.copies + l.copy-index;
      passed : IsSamePassed l.fn.self.width l.fn.self.height (passed_after_paints l.fn.self.width l.fn.self.height l.area (passed_in l.fn.self) (paints (take l.copy-index l.copies))) (passed_in l.self);
    }
