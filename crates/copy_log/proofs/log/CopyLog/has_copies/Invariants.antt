use Rattle.std.proofs.Common.{◌≡◌, false, List, take, drop}
use Rattle.std.specs.List.{list_any}
use Rattle.raster.specs.Update.{Update}
use Rattle.copy_log.specs.Notes.{LogStands}
use Rattle.copy_log.specs.Passed.{has_copy}
use Rattle.copy_log.proofs.log.CopyLog.has_copies.Given as goal

abbrev pub invariant-loop-k : goal.invariant-loop-k
invariant-loop-k l = (us : List Update) → LogStands l.self us → list_any has_copy (drop l.since (take l.k us)) ≡ false
