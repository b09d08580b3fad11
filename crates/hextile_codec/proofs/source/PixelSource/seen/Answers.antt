use Rattle.std.proofs.Common.{◌≡◌, ◌+◌, ◌*◌, ◌≤◌, length, refl, arith}
use Rattle.std.proofs.Math.Nat.{mul_comm}
use Rattle.raster.specs.declared.rect.Rect.{Rect}
use Rattle.raster.specs.Screen.{LooksLike, part_of, value_at, values_of}
use Rattle.hextile_codec.specs.declared.source.PixelSource.{PixelSource}
use Rattle.hextile_codec.specs.Sources.{place_in}
use Rattle.hextile_codec.proofs.Alike.{own_looks}
use Rattle.hextile_codec.proofs.SourceTiles.{lies_in}
use Rattle.hextile_codec.proofs.source.PixelSource.seen.Goals as goal

pub returns-then-not-is_read : goal.returns-then-not-is_read
returns-then-not-is_read c = λ canvas looks.
    let tile : Rect = c.args.tile.now in
    let source : PixelSource = c.args.self.now in
    let stand : LooksLike tile.w tile.h canvas (part_of (place_in source tile) (value_at source.width source.numbers.now)) = rw c.if-not-is_read.true at looks in
    rw c.place_of.ensures (record { lies = lies_in source tile c.requires.stands c.requires.within; wide = refl; high = refl; looks = stand })

pub returns : goal.returns
returns c = λ canvas read.
    let tile : Rect = c.args.tile.now in
    let own : c.args.values.now ≡ values_of tile.w tile.h canvas = rw c.if-not-is_read.false at read in
    let area : (0 + tile.h) * tile.w ≤ length c.args.values.now = omega (arith, c.requires.room, mul_comm tile.w tile.h) in
    record {
      lies = record {
        across = omega arith;
        down = area;
        wide = omega (arith, c.requires.w_most);
        high = omega (arith, c.requires.h_most);
      };
      wide = refl;
      high = refl;
      looks = own_looks tile.w tile.h canvas c.args.values.now own;
    }
