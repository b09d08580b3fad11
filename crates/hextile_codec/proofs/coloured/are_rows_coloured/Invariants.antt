use Rattle.std.proofs.Common.{◌≡◌, ℕ, ◌<◌, ◌≤◌, length, slice_index}
use Rattle.raster.specs.Screen.{value_at, part_of}
use Rattle.hextile_codec.proofs.coloured.are_rows_coloured.Given as goal

abbrev pub invariant-loop-y : goal.invariant-loop-y
invariant-loop-y l =
    record {
      count : length l.bits ≡ 16;
      above : (x y : ℕ) → x < 16 → y < l.y → part_of l.tile (value_at l.w l.numbers) x y ≤ slice_index l.bits x;
    }
