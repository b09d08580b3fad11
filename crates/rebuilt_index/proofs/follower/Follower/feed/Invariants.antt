-- The piece is followed up to the end of a message, or up to its own.
use Rattle.std.proofs.Common.{ℕ, ◌≤◌, List, ◌++◌, length, take}
use Rattle.rebuilt_index.specs.Following.{Follows}
use Rattle.rebuilt_index.proofs.follower.Follower.feed.Given as goal

abbrev pub invariant-loop-start : goal.invariant-loop-start
invariant-loop-start l =
    record {
      within : l.used ≤ length l.piece;
      follows : (w h : ℕ) (stream : List ℕ) → Follows w h l.fn.self stream → (l.start ≤ l.used) × Follows w h l.self (stream ++ take l.used l.piece);
    }
