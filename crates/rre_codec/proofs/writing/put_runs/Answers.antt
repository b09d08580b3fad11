use Rattle.std.proofs.Common.{◌≡◌, ◌+◌, ◌-◌, ◌∙◌, ◌++◌, ◌*◌, List, ℕ, ap, length, take, drop, arith, get_or, sym}
use Rattle.std.specs.List.{flat_map}
use Rattle.std.proofs.lemmas.List.{length-take, length-drop}
use Rattle.pixel_format.specs.PixelFormat.{pixel_len, pixel_bytes}
use Rattle.pixel_format.proofs.Pixels.{pixel_size}
use Rattle.raster.specs.Screen.{Canvas, value_at}
use Rattle.raster.specs.Encoding.{runs, runs_of_row, rre_subrect_bytes}
use Rattle.joined_runs.specs.Joined.{written}
use Rattle.joined_runs.proofs.WrittenParts.{written_none}
use Rattle.rre_codec.proofs.Lengths.{behind_len, head_len}
use Rattle.raster.proofs.Puts.{first_part, part_keeps}
use Rattle.rre_codec.proofs.RunsPut.{below_all, below_none, first_value, put_none, put_all, row_is_put, row_no_room}
use Rattle.rre_codec.proofs.writing.put_runs.Goals as goal
use borrow.Rule.Slice.PartMut.{put_mid}

pub loop-y-init : goal.loop-y-init
loop-y-init c =
    let canvas : Canvas = value_at c.args.w c.args.values.now in
    let begun : List ℕ = put_mid 4 (length c.args.out.now - 4) c.args.out.now c.put_pixel.new.out in
    let part : length c.put_pixel.new.out ≡ length c.args.out.now - 4 = omega (arith, c.put_pixel.auto.out, length-take (length c.args.out.now - 4) (drop 4 c.args.out.now), length-drop 4 c.args.out.now) in
    let whole = part_keeps c.args.out.now c.put_pixel.new.out 4 (omega (arith, c.requires.room)) part in
    record {
      room = omega (arith, whole, c.bytes-used.ensures, c.requires.room);
      whole = whole;
      put = rw (c.bytes-used.ensures, ← below_all canvas c.args.w c.args.h) (put_none c.args.format.now (written c.args.form canvas c.args.w c.args.h (runs canvas c.args.w c.args.h)) begun (4 + pixel_len c.args.format.now));
    }

pub returns-in_err-used : goal.returns-in_err-used
returns-in_err-used c =
    let begun : List ℕ = put_mid 4 (length c.args.out.now - 4) c.args.out.now c.put_pixel.new.out in
    let long = row_no_room c.args.format.now c.args.form (value_at c.args.w c.args.values.now) c.args.w c.args.h c.loop-y.y (get_or c.args.values.now 0 0) begun c.loop-y.out (4 + pixel_len c.args.format.now) c.loop-y.used c.loop-y-test.true (first_value c.args.values.now c.args.w) c.loop-y.invariant.put in
    let canvas : Canvas = value_at c.args.w c.args.values.now in
    let row = behind_len c.args.format.now (take c.loop-y.used c.loop-y.out) (written c.args.form canvas c.args.w c.args.h (runs_of_row canvas (get_or c.args.values.now 0 0) c.args.w c.loop-y.y)) in
    let size = head_len c.args.format.now c.args.out.now (canvas 0 0) (written c.args.form canvas c.args.w c.args.h (runs canvas c.args.w c.args.h)) (omega (arith, c.requires.room)) in
    let none = c.in_err-used.ensures in
    rw c.from_residual.ensures (omega (arith, long, none, row, size, length-take c.loop-y.used c.loop-y.out, c.loop-y.invariant.room, c.loop-y.invariant.whole))

pub loop-y-preserved : goal.loop-y-preserved
loop-y-preserved c =
    let begun : List ℕ = put_mid 4 (length c.args.out.now - 4) c.args.out.now c.put_pixel.new.out in
    let said = c.in_ok-used.ensures in
    let row = behind_len c.args.format.now (take c.loop-y.used c.loop-y.out) (written c.args.form (value_at c.args.w c.args.values.now) c.args.w c.args.h (runs_of_row (value_at c.args.w c.args.values.now) (get_or c.args.values.now 0 0) c.args.w c.loop-y.y)) in
    let stop : c.in_ok-used.used ≡ c.loop-y.used + (pixel_len c.args.format.now + 8) * length (written c.args.form (value_at c.args.w c.args.values.now) c.args.w c.args.h (runs_of_row (value_at c.args.w c.args.values.now) (get_or c.args.values.now 0 0) c.args.w c.loop-y.y)) =
    omega (arith, said.end, row, length-take c.loop-y.used c.loop-y.out, c.loop-y.invariant.room) in
    record {
      room = omega (arith, said.inside, c.put_row.auto.out);
      whole = c.put_row.auto.out ∙ c.loop-y.invariant.whole;
      put = row_is_put c.args.format.now c.args.form (value_at c.args.w c.args.values.now) c.args.w c.args.h c.loop-y.y (get_or c.args.values.now 0 0) begun c.loop-y.out c.put_row.new.out (4 + pixel_len c.args.format.now) c.loop-y.used c.in_ok-used.used c.loop-y-test.true (first_value c.args.values.now c.args.w) c.loop-y.invariant.put stop said.front;
    }

pub returns : goal.returns
returns c =
    let canvas : Canvas = value_at c.args.w c.args.values.now in
    let begun : List ℕ = put_mid 4 (length c.args.out.now - 4) c.args.out.now c.put_pixel.new.out in
    let rest = rw (below_none canvas c.args.w c.args.h c.loop-y.y c.loop-y-test.false) at c.loop-y.invariant.put in
    let over = rw (written_none canvas c.args.w c.args.h c.args.form) at rest in
    let all = put_all c.args.format.now (written c.args.form canvas c.args.w c.args.h (runs canvas c.args.w c.args.h)) begun c.loop-y.out (4 + pixel_len c.args.format.now) c.loop-y.used over in
    let head : take (4 + pixel_len c.args.format.now) begun ≡ take 4 c.args.out.now ++ pixel_bytes c.args.format.now (canvas 0 0) =
    ap (λ t. take (4 + pixel_len c.args.format.now) (put_mid 4 (length c.args.out.now - 4) c.args.out.now t)) c.put_pixel.ensures
    ∙ (first_part c.args.out.now (pixel_bytes c.args.format.now (get_or c.args.values.now 0 0)) (drop (pixel_len c.args.format.now) (take (length c.args.out.now - 4) (drop 4 c.args.out.now))) 4 (pixel_len c.args.format.now) (length c.args.out.now - 4) (pixel_size c.args.format.now (get_or c.args.values.now 0 0)) (omega (arith, c.requires.room))
    ∙ ap (λ v. take 4 c.args.out.now ++ pixel_bytes c.args.format.now v) (first_value c.args.values.now c.args.w)) in
    record {
      end = all.0 ∙ sym (head_len c.args.format.now c.args.out.now (canvas 0 0) (written c.args.form canvas c.args.w c.args.h (runs canvas c.args.w c.args.h)) (omega (arith, c.requires.room)));
      inside = omega (arith, c.loop-y.invariant.room, c.loop-y.invariant.whole);
      front = all.1 ∙ ap (λ t. t ++ flat_map (rre_subrect_bytes c.args.format.now) (written c.args.form canvas c.args.w c.args.h (runs canvas c.args.w c.args.h))) head;
    }
