use Rattle.std.proofs.Common.{◌*◌, ◌≤◌, length, sym, ap, subst, arith}
use Rattle.pixel_format.specs.PixelFormat.{PixelFormat}
use Rattle.raster.specs.declared.rect.Rect.{Rect}
use Rattle.zrle_codec.specs.Areas.{SpellsTiles, area_values}
use Rattle.zrle_codec.specs.Areas.SpellsTiles.{none}
use Rattle.zrle_codec.specs.Cpixel.{cpixel_len}
use Rattle.zrle_codec.proofs.TilesOfAreas.{tile_more, tile_few}
use Rattle.zrle_codec.proofs.encoder.append_tiles.Goals as goal

pub loop-t-init : goal.loop-t-init
loop-t-init c =
    let f : PixelFormat = c.args.pixels.now.format in
    let area : Rect = c.args.area.now in
    record {
      room = c.requires.room;
      tiles = subst (λ bytes. SpellsTiles f area.w area.h (area_values f c.args.width c.args.colours.now area) 0 bytes) (sym c.requires.empty) (none f area.w area.h (area_values f c.args.width c.args.colours.now area));
      few = omega (arith, ap (λ t. length t) c.requires.empty);
    }

pub append_tile-requires-clause-within : goal.append_tile-requires-clause-within
append_tile-requires-clause-within c = record {
  across = omega (arith, c.requires.within.across, c.zrle_tile_rect-tile.ensures.within.across);
  down = omega (arith, c.requires.within.down, c.zrle_tile_rect-tile.ensures.within.down);
}

pub loop-t-preserved : goal.loop-t-preserved
loop-t-preserved c =
    let f : PixelFormat = c.args.pixels.now.format in
    let area : Rect = c.args.area.now in
    let r : Rect = c.zrle_tile_rect-tile.result in
    let four : cpixel_len f ≤ 4 = omega (arith, c.args.pixels.now.has, c.args.pixels.now.inside, c.args.pixels.now.short) in
    record {
      room = c.append_tile.ensures.room;
      tiles = tile_more f area.w area.h c.args.width c.loop-t.t c.args.colours.now c.loop-t.out.items c.append_tile.new.out.items area r c.zrle_tile_rect-tile.ensures.value c.in_ok-append_tile.ensures.ok c.loop-t.invariant.tiles;
      few = omega (arith, tile_few f r.w r.h (16385 * c.loop-t.t) _ c.loop-t.out.items c.append_tile.new.out.items four c.zrle_tile_rect-tile.ensures.wide.1 c.zrle_tile_rect-tile.ensures.high.1 c.in_ok-append_tile.ensures.ok c.loop-t.invariant.few);
    }
