use Rattle.std.proofs.Common.{◌≡◌, ◌+◌, ◌<◌, ◌≤◌, ◌++◌, ◌∙◌, ℕ, List, Bor, length, map, take, ap, arith}
use Rattle.std.proofs.lemmas.List.{length-take}
use Rattle.pixel_format.specs.PixelFormat.{PixelFormat}
use Rattle.raster.specs.declared.rect.Rect.{Rect}
use Rattle.raster.specs.Screen.{Canvas, part_of, tile_count}
use Rattle.raster.specs.Encoding.{Carried}
use Rattle.joined_runs.specs.declared.rect_form.RectForm.TheVariants.{OfRows, Joined}
use Rattle.joined_runs.specs.Joined.{hextile_bytes_as}
use Rattle.joined_runs.specs.Tinted.{tinted_subrect}
use Rattle.hextile_codec.specs.declared.kept.TileForm.{TileForm}
use Rattle.hextile_codec.specs.Carried.{carried_by}
use Rattle.hextile_codec.specs.TileKinds.{IsChosen, subrect_of}
use Rattle.hextile_codec.specs.Sources.{shows}
use Rattle.hextile_codec.specs.Subrects.{subrects_in}
use Rattle.hextile_codec.proofs.Encoded.{none_fits, second_fits, second_shorter, shorter_first}
use Rattle.hextile_codec.proofs.KeptForms.{if_some, kept_of, of_either}
use Rattle.hextile_codec.proofs.Tiles.{IsTileOf, all_put, none_left, tile_area, tile_of, tile_written, rest_from, tile_is_put, too_long, left_len}
use Rattle.hextile_codec.proofs.writing.put_joined.Goals as goal

pub returns-then-out-rows : goal.returns-then-out-rows
returns-then-out-rows c =
    let format : PixelFormat = c.args.format.now in
    let canvas : Canvas = shows c.args.format.now c.args.source.now in
    let of : IsTileOf c.args.source.now.area.w c.args.source.now.area.h c.loop-k.k c.tile_rect-tile.result = tile_of c.args.source.now.area.w c.args.source.now.area.h c.loop-k.k c.tile_count-k-end.result c.tile_rect-tile.result c.requires.wide.0 c.tile_count-k-end.ensures.value c.loop-k-test.true c.tile_rect-tile.ensures in
    let joined : List ℕ = hextile_bytes_as Joined format c.args.source.now.area.w c.args.source.now.area.h canvas in
    let rows : List ℕ = hextile_bytes_as OfRows format c.args.source.now.area.w c.args.source.now.area.h canvas in
    let long = too_long Joined format c.args.source.now.area.w c.args.source.now.area.h canvas (carried_by c.loop-k.said.joined) c.loop-k.k c.tile_rect-tile.result c.loop-k.used c.loop-k.out joined c.tile_rect-tile.ensures of.inside (omega (arith, c.loop-k.invariant.room)) c.loop-k.invariant.bytes in
    let left = left_len OfRows format c.args.source.now.area.w c.args.source.now.area.h canvas (carried_by c.loop-k.said.rows) c.loop-k.k c.tile_rect-tile.result c.choose_tile-choices.result.rows.len c.tile_rect-tile.ensures of.inside c.choose_tile-choices.ensures.rows.len in
    let first : length c.args.out.now ≤ length joined = omega (arith, long, c.choose_tile-choices.ensures.len, c.if-out-used.true, c.loop-k.auto.out) in
    let second : length c.args.out.now ≤ length rows = omega (arith, left, c.loop-k.invariant.rows, c.if-out-rows.true, c.loop-k.auto.out) in
    none_fits joined rows c.args.out.now first second

pub returns-then-out-used : goal.returns-then-out-used
returns-then-out-used c =
    let format : PixelFormat = c.args.format.now in
    let canvas : Canvas = shows c.args.format.now c.args.source.now in
    let of : IsTileOf c.args.source.now.area.w c.args.source.now.area.h c.loop-k.k c.tile_rect-tile.result = tile_of c.args.source.now.area.w c.args.source.now.area.h c.loop-k.k c.tile_count-k-end.result c.tile_rect-tile.result c.requires.wide.0 c.tile_count-k-end.ensures.value c.loop-k-test.true c.tile_rect-tile.ensures in
    let joined : List ℕ = hextile_bytes_as Joined format c.args.source.now.area.w c.args.source.now.area.h canvas in
    let rows : List ℕ = hextile_bytes_as OfRows format c.args.source.now.area.w c.args.source.now.area.h canvas in
    let long = too_long Joined format c.args.source.now.area.w c.args.source.now.area.h canvas (carried_by c.loop-k.said.joined) c.loop-k.k c.tile_rect-tile.result c.loop-k.used c.loop-k.out joined c.tile_rect-tile.ensures of.inside (omega (arith, c.loop-k.invariant.room)) c.loop-k.invariant.bytes in
    let first : length c.args.out.now ≤ length joined = omega (arith, long, c.choose_tile-choices.ensures.len, c.if-out-used.true, c.loop-k.auto.out) in
    second_fits joined rows c.args.out.now c.loop-k.out c.put_rows.new.out c.put_rows.result (omega (arith, c.loop-k.auto.out)) first c.put_rows.ensures

pub loop-k-preserved : goal.loop-k-preserved
loop-k-preserved c =
    let tile : Rect = c.tile_rect-tile.result in
    let format : PixelFormat = c.args.format.now in
    let canvas : Canvas = shows c.args.format.now c.args.source.now in
    let before : Carried = carried_by c.loop-k.said.joined in
    let len : ℕ = c.choose_tile-choices.result.joined.len in
    let of : IsTileOf c.args.source.now.area.w c.args.source.now.area.h c.loop-k.k c.tile_rect-tile.result = tile_of c.args.source.now.area.w c.args.source.now.area.h c.loop-k.k c.tile_count-k-end.result c.tile_rect-tile.result c.requires.wide.0 c.tile_count-k-end.ensures.value c.loop-k-test.true c.tile_rect-tile.ensures in
    let chosen : IsChosen Joined format before tile.w tile.h (part_of tile canvas) (subrects_in format c.joined_subrects-subrects.result) c.choose_tile-choices.result.joined =
    of_either c.form_at-form.result (λ found. IsChosen Joined format before tile.w tile.h (part_of tile canvas) found c.choose_tile-choices.result.joined) PixelFormat format (λ f. subrects_in f c.joined_subrects-subrects.result) (λ f (form : Bor TileForm). map (tinted_subrect f) (map subrect_of form.now.runs.items)) (map subrect_of c.choose_tile-choices.new.room.subrects.items)
    c.joined_subrects-subrects.ensures.kept c.joined_subrects-subrects.ensures.seen c.choose_tile-choices.ensures.kept c.choose_tile-choices.ensures.seen in
    let put : take (c.loop-k.used + len) c.put_tile.new.out ≡ take c.loop-k.used c.loop-k.out ++ (tile_written Joined format c.args.source.now.area.w c.args.source.now.area.h canvas before tile).0 = c.put_tile.ensures Joined chosen in
    let left = left_len OfRows format c.args.source.now.area.w c.args.source.now.area.h canvas (carried_by c.loop-k.said.rows) c.loop-k.k tile c.choose_tile-choices.result.rows.len c.tile_rect-tile.ensures of.inside c.choose_tile-choices.ensures.rows.len in
    let leaves = ap (λ (b : Carried). length (rest_from OfRows format c.args.source.now.area.w c.args.source.now.area.h canvas b (c.loop-k.k + 1))) (c.leaves-said.ensures.rows ∙ c.choose_tile-choices.ensures.rows.leaves) in
    record {
      room = omega (arith, c.put_tile.auto.out, c.loop-k.auto.out, c.if-out-used.false, c.loop-k.invariant.room);
      bytes =
          tile_is_put Joined format c.args.source.now.area.w c.args.source.now.area.h canvas before (carried_by c.leaves-said.result.joined) c.loop-k.k tile c.loop-k.used (c.loop-k.used + len) c.loop-k.out c.put_tile.new.out (hextile_bytes_as Joined format c.args.source.now.area.w c.args.source.now.area.h canvas) c.tile_rect-tile.ensures of.inside put
          (c.leaves-said.ensures.joined ∙ c.choose_tile-choices.ensures.leaves) c.loop-k.invariant.bytes;
      rows = omega (arith, left, leaves, c.loop-k.invariant.rows);
      few = omega (arith, c.choose_tile-choices.ensures.few, c.loop-k.invariant.few);
    }

pub choose_tile-choices-requires-clause-kept : goal.choose_tile-choices-requires-clause-kept
choose_tile-choices-requires-clause-kept c =
    let of : IsTileOf c.args.source.now.area.w c.args.source.now.area.h c.loop-k.k c.tile_rect-tile.result = tile_of c.args.source.now.area.w c.args.source.now.area.h c.loop-k.k c.tile_count-k-end.result c.tile_rect-tile.result c.requires.wide.0 c.tile_count-k-end.ensures.value c.loop-k-test.true c.tile_rect-tile.ensures in
    if_some _ _ c.form_at-form.result (λ f at. kept_of c.args.format.now c.args.source.now.area.w c.args.source.now.area.h c.loop-k.k c.tile_rect-tile.result (shows c.args.format.now c.args.source.now) c.args.forms.now f.now c.requires.kept at.0 of.inside c.tile_rect-tile.ensures at.1) c.form_at-form.ensures.some

pub split_at_mut-values-requires : goal.split_at_mut-values-requires
split_at_mut-values-requires c =
    let of : IsTileOf c.args.source.now.area.w c.args.source.now.area.h c.loop-k.k c.tile_rect-tile.result = tile_of c.args.source.now.area.w c.args.source.now.area.h c.loop-k.k c.tile_count-k-end.result c.tile_rect-tile.result c.requires.wide.0 c.tile_count-k-end.ensures.value c.loop-k-test.true c.tile_rect-tile.ensures in
    omega (arith, tile_area c.tile_rect-tile.result.w c.tile_rect-tile.result.h of.size, c.form_at-form.array_long)

pub put_tile-requires-clause-within : goal.put_tile-requires-clause-within
put_tile-requires-clause-within c =
    let of : IsTileOf c.args.source.now.area.w c.args.source.now.area.h c.loop-k.k c.tile_rect-tile.result = tile_of c.args.source.now.area.w c.args.source.now.area.h c.loop-k.k c.tile_count-k-end.result c.tile_rect-tile.result c.requires.wide.0 c.tile_count-k-end.ensures.value c.loop-k-test.true c.tile_rect-tile.ensures in
    of.within

pub put_tile-requires-clause-size : goal.put_tile-requires-clause-size
put_tile-requires-clause-size c =
    let of : IsTileOf c.args.source.now.area.w c.args.source.now.area.h c.loop-k.k c.tile_rect-tile.result = tile_of c.args.source.now.area.w c.args.source.now.area.h c.loop-k.k c.tile_count-k-end.result c.tile_rect-tile.result c.requires.wide.0 c.tile_count-k-end.ensures.value c.loop-k-test.true c.tile_rect-tile.ensures in
    of.size

pub returns-then-rows-used : goal.returns-then-rows-used
returns-then-rows-used c =
    let format : PixelFormat = c.args.format.now in
    let w : ℕ = c.args.source.now.area.w in
    let h : ℕ = c.args.source.now.area.h in
    let canvas : Canvas = shows format c.args.source.now in
    let joined : List ℕ = hextile_bytes_as Joined format w h canvas in
    let rows : List ℕ = hextile_bytes_as OfRows format w h canvas in
    let over : tile_count w h ≤ c.loop-k.k = rw c.tile_count-k-end.ensures.value at c.loop-k-test.false in
    let all : take c.loop-k.used c.loop-k.out ≡ joined = all_put Joined format w h canvas (carried_by c.loop-k.said.joined) c.loop-k.k c.loop-k.used c.loop-k.out joined over c.loop-k.invariant.bytes in
    let none = none_left OfRows format w h canvas (carried_by c.loop-k.said.rows) c.loop-k.k over in
    let lt : length rows < length joined = omega (arith, ap length all, length-take c.loop-k.used c.loop-k.out, ap length none, c.loop-k.invariant.rows, c.loop-k.invariant.room, c.if-rows-used.true) in
    second_shorter joined rows c.args.out.now c.loop-k.out c.put_rows-then-rows-used.new.out c.put_rows-then-rows-used.result (omega (arith, c.loop-k.auto.out)) lt c.put_rows-then-rows-used.ensures

pub returns : goal.returns
returns c =
    let format : PixelFormat = c.args.format.now in
    let w : ℕ = c.args.source.now.area.w in
    let h : ℕ = c.args.source.now.area.h in
    let canvas : Canvas = shows format c.args.source.now in
    let joined : List ℕ = hextile_bytes_as Joined format w h canvas in
    let rows : List ℕ = hextile_bytes_as OfRows format w h canvas in
    let over : tile_count w h ≤ c.loop-k.k = rw c.tile_count-k-end.ensures.value at c.loop-k-test.false in
    let all : take c.loop-k.used c.loop-k.out ≡ joined = all_put Joined format w h canvas (carried_by c.loop-k.said.joined) c.loop-k.k c.loop-k.used c.loop-k.out joined over c.loop-k.invariant.bytes in
    let none = none_left OfRows format w h canvas (carried_by c.loop-k.said.rows) c.loop-k.k over in
    let size : c.loop-k.used ≡ length joined = omega (arith, ap length all, length-take c.loop-k.used c.loop-k.out, c.loop-k.invariant.room) in
    let le : length joined ≤ length rows = omega (arith, size, ap length none, c.loop-k.invariant.rows, c.if-rows-used.false) in
    rw (shorter_first joined rows le) (size, omega (arith, c.loop-k.invariant.room, c.loop-k.auto.out), all)

pub put_tile-requires-clause-chosen : goal.put_tile-requires-clause-chosen
put_tile-requires-clause-chosen c =
    let format : PixelFormat = c.args.format.now in
    let tile : Rect = c.tile_rect-tile.result in
    let canvas : Canvas = part_of tile (shows format c.args.source.now) in
    let before : Carried = carried_by c.loop-k.said.joined in (
      Joined,
      of_either c.form_at-form.result (λ found. IsChosen Joined format before tile.w tile.h canvas found c.choose_tile-choices.result.joined) PixelFormat format (λ f. subrects_in f c.joined_subrects-subrects.result) (λ f (form : Bor TileForm). map (tinted_subrect f) (map subrect_of form.now.runs.items)) (map subrect_of c.choose_tile-choices.new.room.subrects.items)
          c.joined_subrects-subrects.ensures.kept c.joined_subrects-subrects.ensures.seen c.choose_tile-choices.ensures.kept c.choose_tile-choices.ensures.seen,
    )
