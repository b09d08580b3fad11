-- The piece is read up to the end of a block, or up to its own.
use Rattle.std.proofs.Common.{ℕ, ◌≤◌, List, ◌++◌, length, take}
use Rattle.rebuilt_index.specs.Seeking.{HasRebuilt}
use Rattle.rebuilt_index.proofs.rebuild.Rebuilder.feed.Given as goal

abbrev pub invariant-loop-start : goal.invariant-loop-start
invariant-loop-start l =
    record {
      within : l.used ≤ length l.piece;
      rebuilt : (fed : List ℕ) → HasRebuilt l.fn.self fed → (l.start ≤ l.used) × HasRebuilt l.self (fed ++ take l.used l.piece);
    }
