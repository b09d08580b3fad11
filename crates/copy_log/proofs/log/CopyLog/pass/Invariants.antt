use Rattle.std.proofs.Common.{◌+◌, ◌*◌, ◌≤◌, List, length, take, drop}
use Rattle.std.specs.Prelude.{not}
use Rattle.raster.specs.Update.{Update}
use Rattle.copy_log.specs.Notes.{IsSameScreen, LogStands, passed_in}
use Rattle.copy_log.specs.Passed.{IsSamePassed, passed}
use Rattle.copy_log.proofs.log.CopyLog.pass.Given as goal

abbrev pub invariant-loop-k : goal.invariant-loop-k
invariant-loop-k g l =
    record {
      size : IsSameScreen l.fn.into l.into;
      few : length l.into.copies + 16 * l.since ≤ 16 * l.k;
      passed : (us : List Update) → LogStands l.self us → IsSamePassed l.self.width l.self.height (passed l.self.width l.self.height l.area (λ t. not (g.T.HeldTiles.held l.held t)) (drop l.since (take l.k us))) (passed_in l.into);
    }
