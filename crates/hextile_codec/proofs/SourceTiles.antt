-- A source's tile lies among its numbers, where it is looked at.
use Rattle.std.proofs.Common.{◌+◌, ◌*◌, ◌≤◌, arith}
use Rattle.std.proofs.Math.Nat.{mul-le-mul_right, mul_comm}
use Rattle.raster.specs.declared.rect.Rect.{Rect}
use Rattle.raster.specs.Screen.{IsWithin}
use Rattle.hextile_codec.specs.declared.source.PixelSource.{PixelSource}
use Rattle.hextile_codec.specs.Marks.{LiesAmong}
use Rattle.hextile_codec.specs.Sources.{SourceStands, place_in}

pub lies_in : (source : PixelSource) (tile : Rect) → SourceStands source → IsWithin tile source.area.w source.area.h → LiesAmong source.numbers.now source.width (place_in source tile)
lies_in source tile stands within =
    let below : source.area.y + tile.y + tile.h ≤ source.height = omega (arith, within.down, stands.within.down) in
    let rows : (source.area.y + tile.y + tile.h) * source.width ≤ source.height * source.width = mul-le-mul_right source.width below in
    record {
      across = omega (arith, within.across, stands.within.across);
      down = omega (arith, rows, stands.count, mul_comm source.width source.height);
      wide = stands.small.0;
      high = omega (arith, below, stands.small.1);
    }
