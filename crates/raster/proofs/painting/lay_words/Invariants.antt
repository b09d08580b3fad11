use Rattle.std.proofs.Common.{◌≡◌, ℕ, ◌+◌, ◌<◌, ◌≤◌, length, map, get_or}
use Rattle.std.specs.Int.{w32, from_le_bytes}
use Rattle.raster.proofs.painting.lay_words.Given as goal

abbrev pub invariant-loop-i : goal.invariant-loop-i
invariant-loop-i l =
    record {
      len : length l.values ≡ length l.fn.values;
      inside : (k : ℕ) → k < l.i → get_or l.values (l.from + k) 0 ≡ get_or (map (from_le_bytes w32) l.words) k 0;
      outside : (k : ℕ) → k < l.from → get_or l.values k 0 ≡ get_or l.fn.values k 0;
      past : (k : ℕ) → l.from + l.i ≤ k → get_or l.values k 0 ≡ get_or l.fn.values k 0;
    }
