use Rattle.std.proofs.Common.{◌≡◌, ◌+◌, ◌≤◌, ◌++◌, ◌∙◌, ℕ, List, Some, length, take, ap, sym, arith}
use Rattle.std.specs.Prelude.{slice_index_or}
use Rattle.std.proofs.lemmas.List.{length-take}
use Rattle.pixel_format.specs.PixelFormat.{PixelFormat}
use Rattle.raster.specs.declared.rect.Rect.{Rect}
use Rattle.raster.specs.Screen.{Canvas, tile_count}
use Rattle.raster.specs.Encoding.{Carried}
use Rattle.joined_runs.specs.declared.rect_form.RectForm.TheVariants.{Joined}
use Rattle.joined_runs.specs.Joined.{hextile_bytes_as}
use Rattle.hextile_codec.specs.declared.tile_kind.TileKind.TheVariants.{Raw}
use Rattle.hextile_codec.specs.declared.tile_kind.TileChoice.{TileChoice}
use Rattle.hextile_codec.specs.Carried.{carried_by}
use Rattle.hextile_codec.specs.Sources.{shows}
use Rattle.hextile_codec.proofs.Choices.{carried_on, choice_at}
use Rattle.hextile_codec.proofs.Tiles.{IsTileOf, all_put, tile_area, tile_is_put, tile_of, tile_written, too_long}
use Rattle.hextile_codec.proofs.writing.put_all_chosen.Goals as goal

abbrev nothing_chosen : TileChoice
nothing_chosen = record { kind = Raw; background = 0; len = 0 }

pub returns-in_err-form : goal.returns-in_err-form
returns-in_err-form c =
    let of : IsTileOf c.args.source.now.area.w c.args.source.now.area.h c.loop-k.k c.tile_rect-tile.result = tile_of c.args.source.now.area.w c.args.source.now.area.h c.loop-k.k c.tile_count-k-end.result c.tile_rect-tile.result c.requires.wide.0 c.tile_count-k-end.ensures.value c.loop-k-test.true c.tile_rect-tile.ensures in
    let some = (c.requires.chosen c.loop-k.k nothing_chosen (omega (arith, of.inside, c.requires.all))).kept in
    let none = c.in_err-form.ensures.none in
    absurd cc

pub split_at_mut-values-requires : goal.split_at_mut-values-requires
split_at_mut-values-requires c =
    let of : IsTileOf c.args.source.now.area.w c.args.source.now.area.h c.loop-k.k c.tile_rect-tile.result = tile_of c.args.source.now.area.w c.args.source.now.area.h c.loop-k.k c.tile_count-k-end.result c.tile_rect-tile.result c.requires.wide.0 c.tile_count-k-end.ensures.value c.loop-k-test.true c.tile_rect-tile.ensures in
    omega (arith, tile_area c.tile_rect-tile.result.w c.tile_rect-tile.result.h of.size, c.tile_rect-tile.array_long)

pub put_tile-requires-clause-within : goal.put_tile-requires-clause-within
put_tile-requires-clause-within c =
    let of : IsTileOf c.args.source.now.area.w c.args.source.now.area.h c.loop-k.k c.tile_rect-tile.result = tile_of c.args.source.now.area.w c.args.source.now.area.h c.loop-k.k c.tile_count-k-end.result c.tile_rect-tile.result c.requires.wide.0 c.tile_count-k-end.ensures.value c.loop-k-test.true c.tile_rect-tile.ensures in
    of.within

pub put_tile-requires-clause-size : goal.put_tile-requires-clause-size
put_tile-requires-clause-size c =
    let of : IsTileOf c.args.source.now.area.w c.args.source.now.area.h c.loop-k.k c.tile_rect-tile.result = tile_of c.args.source.now.area.w c.args.source.now.area.h c.loop-k.k c.tile_count-k-end.result c.tile_rect-tile.result c.requires.wide.0 c.tile_count-k-end.ensures.value c.loop-k-test.true c.tile_rect-tile.ensures in
    of.size

pub put_tile-requires-clause-chosen : goal.put_tile-requires-clause-chosen
put_tile-requires-clause-chosen c =
    let of : IsTileOf c.args.source.now.area.w c.args.source.now.area.h c.loop-k.k c.tile_rect-tile.result = tile_of c.args.source.now.area.w c.args.source.now.area.h c.loop-k.k c.tile_count-k-end.result c.tile_rect-tile.result c.requires.wide.0 c.tile_count-k-end.ensures.value c.loop-k-test.true c.tile_rect-tile.ensures in
    let is = choice_at c.args.format.now c.args.source.now.area.w c.args.source.now.area.h c.loop-k.k (shows c.args.format.now c.args.source.now) (carried_by c.loop-k.said) c.tile_rect-tile.result c.args.forms.now c.in_ok-form.form.now c.args.chosen.now nothing_chosen c.requires.chosen c.requires.all of.inside c.tile_rect-tile.ensures c.loop-k.invariant.carried c.in_ok-form.ensures.some.1 in
    rw (c.subrects-subrects.ensures c.args.format.now) (Joined, is)

pub put_tile-requires-clause-room : goal.put_tile-requires-clause-room
put_tile-requires-clause-room c =
    let of : IsTileOf c.args.source.now.area.w c.args.source.now.area.h c.loop-k.k c.tile_rect-tile.result = tile_of c.args.source.now.area.w c.args.source.now.area.h c.loop-k.k c.tile_count-k-end.result c.tile_rect-tile.result c.requires.wide.0 c.tile_count-k-end.ensures.value c.loop-k-test.true c.tile_rect-tile.ensures in
    let is = choice_at c.args.format.now c.args.source.now.area.w c.args.source.now.area.h c.loop-k.k (shows c.args.format.now c.args.source.now) (carried_by c.loop-k.said) c.tile_rect-tile.result c.args.forms.now c.in_ok-form.form.now c.args.chosen.now nothing_chosen c.requires.chosen c.requires.all of.inside c.tile_rect-tile.ensures c.loop-k.invariant.carried c.in_ok-form.ensures.some.1 in
    let long = too_long Joined c.args.format.now c.args.source.now.area.w c.args.source.now.area.h (shows c.args.format.now c.args.source.now) (carried_by c.loop-k.said) c.loop-k.k c.tile_rect-tile.result c.loop-k.used c.loop-k.out (hextile_bytes_as Joined c.args.format.now c.args.source.now.area.w c.args.source.now.area.h (shows c.args.format.now c.args.source.now)) c.tile_rect-tile.ensures of.inside c.loop-k.invariant.room c.loop-k.invariant.bytes in
    omega (arith, long, is.len, c.requires.room, c.loop-k.auto.out)

pub overflow_add-used : goal.overflow_add-used
overflow_add-used c =
    let of : IsTileOf c.args.source.now.area.w c.args.source.now.area.h c.loop-k.k c.tile_rect-tile.result = tile_of c.args.source.now.area.w c.args.source.now.area.h c.loop-k.k c.tile_count-k-end.result c.tile_rect-tile.result c.requires.wide.0 c.tile_count-k-end.ensures.value c.loop-k-test.true c.tile_rect-tile.ensures in
    let is = choice_at c.args.format.now c.args.source.now.area.w c.args.source.now.area.h c.loop-k.k (shows c.args.format.now c.args.source.now) (carried_by c.loop-k.said) c.tile_rect-tile.result c.args.forms.now c.in_ok-form.form.now c.args.chosen.now nothing_chosen c.requires.chosen c.requires.all of.inside c.tile_rect-tile.ensures c.loop-k.invariant.carried c.in_ok-form.ensures.some.1 in
    let long = too_long Joined c.args.format.now c.args.source.now.area.w c.args.source.now.area.h (shows c.args.format.now c.args.source.now) (carried_by c.loop-k.said) c.loop-k.k c.tile_rect-tile.result c.loop-k.used c.loop-k.out (hextile_bytes_as Joined c.args.format.now c.args.source.now.area.w c.args.source.now.area.h (shows c.args.format.now c.args.source.now)) c.tile_rect-tile.ensures of.inside c.loop-k.invariant.room c.loop-k.invariant.bytes in
    omega (arith, long, is.len, c.requires.room, c.loop-k.auto.out)

pub loop-k-preserved : goal.loop-k-preserved
loop-k-preserved c =
    let of : IsTileOf c.args.source.now.area.w c.args.source.now.area.h c.loop-k.k c.tile_rect-tile.result = tile_of c.args.source.now.area.w c.args.source.now.area.h c.loop-k.k c.tile_count-k-end.result c.tile_rect-tile.result c.requires.wide.0 c.tile_count-k-end.ensures.value c.loop-k-test.true c.tile_rect-tile.ensures in
    let is = choice_at c.args.format.now c.args.source.now.area.w c.args.source.now.area.h c.loop-k.k (shows c.args.format.now c.args.source.now) (carried_by c.loop-k.said) c.tile_rect-tile.result c.args.forms.now c.in_ok-form.form.now c.args.chosen.now nothing_chosen c.requires.chosen c.requires.all of.inside c.tile_rect-tile.ensures c.loop-k.invariant.carried c.in_ok-form.ensures.some.1 in
    let long = too_long Joined c.args.format.now c.args.source.now.area.w c.args.source.now.area.h (shows c.args.format.now c.args.source.now) (carried_by c.loop-k.said) c.loop-k.k c.tile_rect-tile.result c.loop-k.used c.loop-k.out (hextile_bytes_as Joined c.args.format.now c.args.source.now.area.w c.args.source.now.area.h (shows c.args.format.now c.args.source.now)) c.tile_rect-tile.ensures of.inside c.loop-k.invariant.room c.loop-k.invariant.bytes in
    let format : PixelFormat = c.args.format.now in
    let canvas : Canvas = shows format c.args.source.now in
    let tile : Rect = c.tile_rect-tile.result in
    let before : Carried = carried_by c.loop-k.said in
    let len : ℕ = (slice_index_or c.args.chosen.now c.loop-k.k nothing_chosen).len in
    let put : take (c.loop-k.used + len) c.put_tile.new.out ≡ take c.loop-k.used c.loop-k.out ++ (tile_written Joined format c.args.source.now.area.w c.args.source.now.area.h canvas before tile).0 = c.put_tile.ensures Joined (rw (c.subrects-subrects.ensures c.args.format.now) is) in
    record {
      room = omega (arith, long, is.len, c.requires.room, c.loop-k.auto.out, c.put_tile.auto.out);
      carried = c.leaves-said.ensures ∙ (is.leaves ∙ carried_on format c.args.source.now.area.w c.args.source.now.area.h c.loop-k.k canvas before tile c.tile_rect-tile.ensures c.loop-k.invariant.carried);
      bytes = tile_is_put Joined format c.args.source.now.area.w c.args.source.now.area.h canvas before (carried_by c.leaves-said.result) c.loop-k.k tile c.loop-k.used (c.loop-k.used + len) c.loop-k.out c.put_tile.new.out (hextile_bytes_as Joined format c.args.source.now.area.w c.args.source.now.area.h canvas) c.tile_rect-tile.ensures of.inside put (c.leaves-said.ensures ∙ is.leaves) c.loop-k.invariant.bytes;
    }

pub returns : goal.returns
returns c =
    let format : PixelFormat = c.args.format.now in
    let w : ℕ = c.args.source.now.area.w in
    let h : ℕ = c.args.source.now.area.h in
    let canvas : Canvas = shows format c.args.source.now in
    let whole : List ℕ = hextile_bytes_as Joined format w h canvas in
    let over : tile_count w h ≤ c.loop-k.k = rw c.tile_count-k-end.ensures.value at c.loop-k-test.false in
    let all : take c.loop-k.used c.loop-k.out ≡ whole = all_put Joined format w h canvas (carried_by c.loop-k.said) c.loop-k.k c.loop-k.used c.loop-k.out whole over c.loop-k.invariant.bytes in
    let size : c.loop-k.used ≡ length whole = omega (arith, ap length all, length-take c.loop-k.used c.loop-k.out, c.loop-k.invariant.room) in
    (ap Some size, ap (λ n. take n c.loop-k.out) (sym size) ∙ all)
