use Rattle.std.proofs.Common.{ℕ, ◌*◌, ◌≤◌, length}
use Rattle.std.specs.Prelude.{filter}
use Rattle.std.specs.List.{range_with_len}
use Rattle.raster.specs.Screen.{value_at, part_of}
use Rattle.hextile_codec.proofs.Shown.{is_again}
use Rattle.hextile_codec.proofs.crowded.count_again.Given as goal

abbrev pub invariant-loop-n : goal.invariant-loop-n
invariant-loop-n l =
    record {
      few : l.again ≤ 16 * l.n;
      again : (v : ℕ) → length (filter (is_again (part_of l.tile (value_at l.w l.values)) v l.y l.top l.n) (range_with_len 0 16)) ≤ l.again;
    }
