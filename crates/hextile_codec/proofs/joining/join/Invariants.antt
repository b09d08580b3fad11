use Rattle.std.proofs.Common.{◌≡◌, ◌≤◌, length, map, take}
use Rattle.raster.specs.Screen.{value_at, part_of}
use Rattle.joined_runs.specs.declared.rect_form.RectForm.TheVariants.{Joined}
use Rattle.joined_runs.specs.Joined.{written}
use Rattle.hextile_codec.specs.TileKinds.{subrect_of}
use Rattle.hextile_codec.proofs.joining.join.Given as goal

abbrev pub invariant-loop-run : goal.invariant-loop-run
invariant-loop-run l =
    record {
      few : length l.joined.items ≤ l.run-index;
      so_far : map subrect_of l.joined.items ≡ written Joined (part_of l.tile (value_at l.w l.values)) l.tile.w l.tile.h (map subrect_of (take l.run-index l.runs));
    }
