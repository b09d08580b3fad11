use Rattle.std.proofs.Common.{◌≡◌, ◌-◌, ◌≤◌, length}
use Rattle.raster.specs.Screen.{tile_count, value_at, whole_screen}
use Rattle.tiles.proofs.RunTiles.{walk_at}
use Rattle.painter.specs.Encoded.{AreEncoded}
use Rattle.painter.proofs.encoded.EncodedAreas.add_touched.Given as goal

abbrev pub invariant-loop-run : goal.invariant-loop-run
invariant-loop-run l =
    record {
      walk : l.walk ≡ walk_at l.source.width l.source.height (whole_screen l.source.width l.source.height) l.walk.next;
      end : l.end ≤ length l.self.bytes.items;
      encoded : AreEncoded l.self.format (value_at l.source.width l.source.colours.now) l.end l.self.bytes.items l.self.list.items;
    }

abbrev pub decreases-loop-run : goal.decreases-loop-run
decreases-loop-run l = tile_count l.walk.width l.walk.height - l.walk.next
