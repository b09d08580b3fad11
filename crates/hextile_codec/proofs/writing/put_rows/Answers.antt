use Rattle.std.proofs.Common.{◌≡◌, ◌+◌, ◌≤◌, ◌++◌, ◌∙◌, ℕ, List, length, take, ap, arith}
use Rattle.std.proofs.lemmas.List.{length-take}
use Rattle.raster.specs.declared.rect.Rect.{Rect}
use Rattle.raster.specs.Screen.{Canvas, part_of, tile_count}
use Rattle.raster.specs.Encoding.{Carried}
use Rattle.joined_runs.specs.declared.rect_form.RectForm.TheVariants.{OfRows}
use Rattle.joined_runs.specs.Joined.{hextile_bytes_as}
use Rattle.hextile_codec.specs.Carried.{carried_by}
use Rattle.hextile_codec.specs.TileKinds.{IsChosen}
use Rattle.hextile_codec.specs.Sources.{shows}
use Rattle.hextile_codec.specs.Subrects.{subrects_in}
use Rattle.hextile_codec.proofs.Tiles.{IsTileOf, tile_area, tile_of, tile_written, tile_is_put, too_long, all_put}
use Rattle.hextile_codec.proofs.writing.put_rows.Goals as goal

pub returns-then-out-used : goal.returns-then-out-used
returns-then-out-used c =
    let canvas : Canvas = shows c.args.format.now c.args.source.now in
    let of : IsTileOf c.args.source.now.area.w c.args.source.now.area.h c.loop-k.k c.tile_rect-tile.result = tile_of c.args.source.now.area.w c.args.source.now.area.h c.loop-k.k c.tile_count-k-end.result c.tile_rect-tile.result c.requires.wide.0 c.tile_count-k-end.ensures.value c.loop-k-test.true c.tile_rect-tile.ensures in
    let long =
    too_long OfRows c.args.format.now c.args.source.now.area.w c.args.source.now.area.h canvas (carried_by c.loop-k.said) c.loop-k.k c.tile_rect-tile.result c.loop-k.used c.loop-k.out (hextile_bytes_as OfRows c.args.format.now c.args.source.now.area.w c.args.source.now.area.h canvas) c.tile_rect-tile.ensures of.inside (omega (arith, c.loop-k.invariant.room)) c.loop-k.invariant.bytes in
    omega (arith, long, c.choose_rows-choice.ensures.len, c.if-out-used.true, c.loop-k.auto.out)

pub put_tile-requires-clause-size : goal.put_tile-requires-clause-size
put_tile-requires-clause-size c =
    let of : IsTileOf c.args.source.now.area.w c.args.source.now.area.h c.loop-k.k c.tile_rect-tile.result = tile_of c.args.source.now.area.w c.args.source.now.area.h c.loop-k.k c.tile_count-k-end.result c.tile_rect-tile.result c.requires.wide.0 c.tile_count-k-end.ensures.value c.loop-k-test.true c.tile_rect-tile.ensures in
    of.size

pub put_tile-requires-clause-chosen : goal.put_tile-requires-clause-chosen
put_tile-requires-clause-chosen c = rw (c.of_values-subrects.ensures c.args.format.now, c.as_slice.ensures.value) (OfRows, c.choose_rows-choice.ensures)

pub returns : goal.returns
returns c =
    let whole : List ℕ = hextile_bytes_as OfRows c.args.format.now c.args.source.now.area.w c.args.source.now.area.h (shows c.args.format.now c.args.source.now) in
    let over : tile_count c.args.source.now.area.w c.args.source.now.area.h ≤ c.loop-k.k = rw c.tile_count-k-end.ensures.value at c.loop-k-test.false in
    let all : take c.loop-k.used c.loop-k.out ≡ whole = all_put OfRows c.args.format.now c.args.source.now.area.w c.args.source.now.area.h (shows c.args.format.now c.args.source.now) (carried_by c.loop-k.said) c.loop-k.k c.loop-k.used c.loop-k.out whole over c.loop-k.invariant.bytes in
    let size : c.loop-k.used ≡ length whole = omega (arith, ap length all, length-take c.loop-k.used c.loop-k.out, c.loop-k.invariant.room) in
    (size, omega (arith, c.loop-k.invariant.room, c.loop-k.auto.out), all)

pub loop-k-preserved : goal.loop-k-preserved
loop-k-preserved c =
    let tile : Rect = c.tile_rect-tile.result in
    let canvas : Canvas = shows c.args.format.now c.args.source.now in
    let before : Carried = carried_by c.loop-k.said in
    let of : IsTileOf c.args.source.now.area.w c.args.source.now.area.h c.loop-k.k c.tile_rect-tile.result = tile_of c.args.source.now.area.w c.args.source.now.area.h c.loop-k.k c.tile_count-k-end.result c.tile_rect-tile.result c.requires.wide.0 c.tile_count-k-end.ensures.value c.loop-k-test.true c.tile_rect-tile.ensures in
    let is : IsChosen OfRows c.args.format.now before tile.w tile.h (part_of tile canvas) (subrects_in c.args.format.now c.of_values-subrects.result) c.choose_rows-choice.result = rw (c.of_values-subrects.ensures c.args.format.now, c.as_slice.ensures.value) c.choose_rows-choice.ensures in
    let put : take (c.loop-k.used + c.choose_rows-choice.result.len) c.put_tile.new.out ≡ take c.loop-k.used c.loop-k.out ++ (tile_written OfRows c.args.format.now c.args.source.now.area.w c.args.source.now.area.h canvas before tile).0 =
    c.put_tile.ensures OfRows is in
    record {
      room = omega (arith, c.put_tile.auto.out, c.loop-k.auto.out, c.if-out-used.false, c.loop-k.invariant.room);
      bytes =
          tile_is_put OfRows c.args.format.now c.args.source.now.area.w c.args.source.now.area.h canvas before (carried_by c.leaves-said.result) c.loop-k.k tile c.loop-k.used (c.loop-k.used + c.choose_rows-choice.result.len) c.loop-k.out c.put_tile.new.out (hextile_bytes_as OfRows c.args.format.now c.args.source.now.area.w c.args.source.now.area.h canvas) c.tile_rect-tile.ensures of.inside put
          (c.leaves-said.ensures ∙ c.choose_rows-choice.ensures.leaves) c.loop-k.invariant.bytes;
    }

pub split_at_mut-values-requires : goal.split_at_mut-values-requires
split_at_mut-values-requires c =
    let of : IsTileOf c.args.source.now.area.w c.args.source.now.area.h c.loop-k.k c.tile_rect-tile.result = tile_of c.args.source.now.area.w c.args.source.now.area.h c.loop-k.k c.tile_count-k-end.result c.tile_rect-tile.result c.requires.wide.0 c.tile_count-k-end.ensures.value c.loop-k-test.true c.tile_rect-tile.ensures in
    omega (arith, tile_area c.tile_rect-tile.result.w c.tile_rect-tile.result.h of.size, c.tile_rect-tile.array_long)

pub put_tile-requires-clause-within : goal.put_tile-requires-clause-within
put_tile-requires-clause-within c =
    let of : IsTileOf c.args.source.now.area.w c.args.source.now.area.h c.loop-k.k c.tile_rect-tile.result = tile_of c.args.source.now.area.w c.args.source.now.area.h c.loop-k.k c.tile_count-k-end.result c.tile_rect-tile.result c.requires.wide.0 c.tile_count-k-end.ensures.value c.loop-k-test.true c.tile_rect-tile.ensures in
    of.within
