-- All that was read of the file was seen.
use Rattle.std.proofs.Common.{◌≡◌, length}
use Rattle.rebuilt_index.specs.Seeking.{HasRebuilt}
use Rattle.rebuilt_index.proofs.rebuild.rebuild_index.Given as goal

abbrev pub invariant-loop : goal.invariant-loop
invariant-loop g l =
    (goal.iterator-loop g).can_next l.iterator' × (goal.iterator-loop g).is_finite l.iterator'
    × record {
      room : length l.piece.items ≡ 65536;
      begins : g.F.Recorded.start l.file ≡ 0;
      rebuilt : HasRebuilt l.rebuilder (g.F.Recorded.so_far l.file);
    }
