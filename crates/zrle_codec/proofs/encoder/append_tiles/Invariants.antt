use Rattle.std.proofs.Common.{◌≡◌, ◌*◌, ◌≤◌, length}
use Rattle.zrle_codec.specs.Areas.{SpellsTiles, area_values}
use Rattle.zrle_codec.proofs.encoder.append_tiles.Given as goal

abbrev pub invariant-loop-t : goal.invariant-loop-t
invariant-loop-t l =
    record {
      room : length l.room ≡ 4096;
      tiles : SpellsTiles l.pixels.format l.area.w l.area.h (area_values l.pixels.format l.width l.colours l.area) l.t l.out.items;
      few : length l.out.items ≤ 16385 * l.t;
    }
