use Rattle.std.proofs.Common.{◌≡◌, ℕ, ◌+◌, ◌-◌, ◌*◌, ◌≤◌, length, take, drop, sym, ap, ◌∙◌, arith}
use Rattle.std.proofs.lemmas.List.{length-take, length-drop}
use Rattle.std.proofs.Math.Nat.{mul-le-mul_right}
use borrow.Rule.Slice.PartMut.{same_len_mid}
use Rattle.pixel_format.specs.PixelFormat.{pixel_len, row_bytes}
use Rattle.raster.specs.Screen.{part_of, value_at}
use Rattle.raster.proofs.PixelRows.{rows_written, bytes_within}
use Rattle.raster.proofs.area_rows.write_rows.Goals as goal

pub tint_row-requires : goal.tint_row-requires
tint_row-requires c =
    let a = c.args in
    let row_len : ℕ = c.bytes.result * a.area.now.w in
    let start : ℕ = c.loop-row.row * row_len in
    let within = bytes_within c.loop-row.row row_len a.area.now.h (omega arith) in
    let room : length c.loop-row.out ≡ a.area.now.h * row_len = omega (arith, c.loop-row.invariant.size, ap (λ b. b * (a.area.now.w * a.area.now.h)) c.bytes.ensures) in
    let wrote : length (take (start + row_len - start) (drop start c.loop-row.out)) ≡ row_len = omega (arith, within, room, length-take (start + row_len - start) (drop start c.loop-row.out), length-drop start c.loop-row.out) in
    wrote ∙ (ap (λ b. b * a.area.now.w) c.bytes.ensures ∙ ap (λ n. pixel_len a.format.now * n) (sym c.row_of-part.ensures.across))

pub loop-row-preserved : goal.loop-row-preserved
loop-row-preserved c =
    let a = c.args in
    let row_len : ℕ = c.bytes.result * a.area.now.w in
    let start : ℕ = c.loop-row.row * row_len in
    let up_to : (c.loop-row.row + 1) * row_len ≤ a.area.now.h * row_len = mul-le-mul_right row_len (omega arith) in
    let more : (c.loop-row.row + 1) * row_len ≡ start + row_len = omega arith in
    let room : length c.loop-row.out ≡ a.area.now.h * row_len = omega (arith, c.loop-row.invariant.size, ap (λ b. b * (a.area.now.w * a.area.now.h)) c.bytes.ensures) in
    let part : length c.tint_row.new.out ≡ row_len = omega (arith, c.tint_row.auto.out, length-take (start + row_len - start) (drop start c.loop-row.out), length-drop start c.loop-row.out) in
    record {
      size = same_len_mid start (start + row_len - start) c.loop-row.out c.tint_row.new.out c.tint_row.auto.out ∙ c.loop-row.invariant.size;
      rows = rows_written a.format.now a.area.now.w c.loop-row.row (part_of a.area.now (value_at a.width a.colours.now)) start ((c.loop-row.row + 1) * row_len) (start + row_len - start) c.loop-row.out c.tint_row.new.out (omega arith) c.loop-row.invariant.rows
          (c.tint_row.ensures ∙ ap (row_bytes a.format.now) c.row_of-part.ensures.shows) (omega arith);
    }
