use Rattle.std.proofs.Common.{◌≡◌, ℕ, ◌++◌, List, take, Some, refl, ap, ◌∙◌}
use Rattle.std.proofs.lemmas.List.{take-append-le}
use Rattle.raster.specs.Encoding.{encoding_number}
use Rattle.joined_runs.specs.declared.rect_form.RectForm.{RectForm}
use Rattle.joined_runs.specs.Joined.{IsEncodedAs, form_of}
use Rattle.rfb_wire.specs.Writing.{rectangle_head_bytes}
use Rattle.update_encoder.specs.Answer.{pixels_in}
use Rattle.update_encoder.specs.Coming.{shown}
use Rattle.update_encoder.proofs.Fronts.{head_then, within_front, written_whole}
use Rattle.update_encoder.proofs.rectangle.write_encoded.Goals as goal

pub returns-clause-written : goal.returns-clause-written
returns-clause-written c =
    let area = c.args.area.now in
    let cut = c.args.cut.now in
    let runs : RectForm = c.args.style.now.runs in
    let format = c.args.style.now.format in
    let kind = c.args.style.now.choice.kind in
    let len : ℕ = c.in_ok-len.len in
    let pixels : List ℕ = pixels_in format (shown cut) area in
    let encoded : IsEncodedAs runs kind format area.w area.h pixels c.encode.new.out (Some len) = c.in_ok-len.ensures in
    let behind : List ℕ = c.split_at_mut-data.result.1.now in
    let form_is : take len (c.encode.new.out ++ behind) ≡ form_of runs kind format area.w area.h pixels = take-append-le len c.encode.new.out behind (within_front (form_of runs kind format area.w area.h pixels) c.encode.new.out len encoded.1 encoded.2) ∙ encoded.2 in (
      encoded.0,
      head_then (rectangle_head_bytes area (encoding_number kind)) (form_of runs kind format area.w area.h pixels) c.write_rectangle_head.new.out (c.encode.new.out ++ behind) _ len
          (written_whole (rectangle_head_bytes area c.number.result) c.split_at_mut-head.result.0.now c.write_rectangle_head.new.out _ c.write_rectangle_head.ensures c.split_at_mut-head.ensures.front_len ∙ ap (λ n. rectangle_head_bytes area n) c.number.ensures)
          refl encoded.1 form_is refl,
    )
