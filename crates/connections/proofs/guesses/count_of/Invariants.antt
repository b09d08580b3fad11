-- As many were counted as are among those that were looked at.
use Rattle.std.proofs.Common.{◌≡◌, ◌≤◌, take}
use Rattle.std.specs.Prelude.{count_by}
use Rattle.connections.specs.Guessing.{is_lately_from}
use Rattle.connections.proofs.guesses.count_of.Given as goal

abbrev pub invariant-loop-guess : goal.invariant-loop-guess
invariant-loop-guess l =
    record {
      count : l.count ≡ count_by (is_lately_from l.ip l.now) (take l.guess-index l.wrong);
      few : l.count ≤ l.guess-index;
    }
