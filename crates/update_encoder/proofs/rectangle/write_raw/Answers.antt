use Rattle.std.proofs.Common.{◌≡◌, ℕ, ◌*◌, ◌++◌, List, length, take, refl, sym, ap, ◌∙◌}
use Rattle.std.proofs.Math.Seq.{take-append_seam}
use Rattle.pixel_format.specs.PixelFormat.{row_bytes}
use Rattle.raster.specs.declared.encoding.Encoding.TheVariants.{Raw}
use Rattle.raster.specs.Encoding.{form}
use Rattle.raster.specs.Screen.{value_at}
use Rattle.rfb_wire.specs.Writing.{rectangle_head_bytes}
use Rattle.update_encoder.specs.Answer.{colours_in, pixels_in}
use Rattle.update_encoder.specs.Coming.{shown}
use Rattle.update_encoder.proofs.Fronts.{head_then, raw_is_rows, written_whole}
use Rattle.update_encoder.proofs.rectangle.write_raw.Goals as goal

pub returns-clause-written : goal.returns-clause-written
returns-clause-written c =
    let area = c.args.area.now in
    let cut = c.args.cut.now in
    let format = c.args.format.now in
    let size : ℕ = c.bytes.result * (area.w * area.h) in
    let pixel_data : List ℕ = form Raw format area.w area.h (pixels_in format (shown cut) area) in
    let rows : List ℕ = c.write_rows.new.out in
    let behind : List ℕ = c.split_at_mut-rows.result.1.now in
    let len : size ≡ length rows = sym (c.write_rows.auto.out ∙ c.split_at_mut-rows.ensures.front_len) in
    let rows_are : rows ≡ pixel_data =
    c.write_rows.ensures ∙ (ap (λ (l : List ℕ). row_bytes format (colours_in (value_at cut.width l) area)) c.as_slice.ensures.value ∙ raw_is_rows format (colours_in (shown cut) area)) in
    head_then (rectangle_head_bytes area 0) pixel_data c.write_rectangle_head.new.out (rows ++ behind) _ size
    (written_whole (rectangle_head_bytes area c.number.result) c.split_at_mut-head.result.0.now c.write_rectangle_head.new.out _ c.write_rectangle_head.ensures c.split_at_mut-head.ensures.front_len ∙ ap (λ n. rectangle_head_bytes area n) c.number.ensures)
    refl (len ∙ ap length rows_are) (ap (λ n. take n (rows ++ behind)) len ∙ (take-append_seam rows behind ∙ rows_are)) refl
