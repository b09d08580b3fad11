use Rattle.std.proofs.Common.{◌≡◌, ℕ, ◌+◌, ◌-◌, ◌*◌, ◌≤◌, length, take, drop, sym, ap, ◌∙◌, arith}
use Rattle.std.specs.Prelude.{map}
use Rattle.std.proofs.lemmas.List.{length-take, length-drop}
use Rattle.std.proofs.Math.Nat.{mul-le-mul_right, mul_comm}
use borrow.Rule.Slice.PartMut.{same_len_mid}
use Rattle.pixel_format.specs.PixelFormat.{tint}
use Rattle.raster.specs.Screen.{part_of, value_at}
use Rattle.raster.proofs.PixelRows.{rows_tinted, bytes_within}
use Rattle.raster.proofs.area_rows.tint_rows.Goals as goal

pub tint_values-requires : goal.tint_values-requires
tint_values-requires c =
    let across : ℕ = c.args.area.now.w in
    let start : ℕ = c.loop-row.row * across in
    let within = bytes_within c.loop-row.row across c.args.area.now.h (omega arith) in
    let room : length c.loop-row.values ≡ c.args.area.now.h * across = omega (arith, c.loop-row.invariant.size, mul_comm across c.args.area.now.h) in
    let wrote : length (take (start + across - start) (drop start c.loop-row.values)) ≡ across = omega (arith, within, room, length-take (start + across - start) (drop start c.loop-row.values), length-drop start c.loop-row.values) in
    wrote ∙ sym c.row_of-part.ensures.across

pub loop-row-preserved : goal.loop-row-preserved
loop-row-preserved c =
    let a = c.args in
    let across : ℕ = a.area.now.w in
    let start : ℕ = c.loop-row.row * across in
    let up_to : (c.loop-row.row + 1) * across ≤ a.area.now.h * across = mul-le-mul_right across (omega arith) in
    let more : (c.loop-row.row + 1) * across ≡ start + across = omega arith in
    let room : length c.loop-row.values ≡ a.area.now.h * across = omega (arith, c.loop-row.invariant.size, mul_comm across a.area.now.h) in
    let part : length c.tint_values.new.values ≡ across = omega (arith, c.tint_values.auto.values, length-take (start + across - start) (drop start c.loop-row.values), length-drop start c.loop-row.values) in
    record {
      size = same_len_mid start (start + across - start) c.loop-row.values c.tint_values.new.values c.tint_values.auto.values ∙ c.loop-row.invariant.size;
      rows = rows_tinted a.format.now across c.loop-row.row (part_of a.area.now (value_at a.width a.colours.now)) start ((c.loop-row.row + 1) * across) (start + across - start) c.loop-row.values c.tint_values.new.values (omega arith) c.loop-row.invariant.rows
          (c.tint_values.ensures ∙ ap (map (tint a.format.now)) c.row_of-part.ensures.shows) (omega arith);
    }
