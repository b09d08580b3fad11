use Rattle.std.proofs.Common.{◌≡◌, ℕ, ◌*◌, List, length, ap, ◌∙◌, arith}
use Rattle.std.proofs.lemmas.Bool.{ltb-true}
use Rattle.std.proofs.lemmas.List.{length-map}
use Rattle.pixel_format.specs.PixelFormat.{PixelFormat, pixel_len, tint}
use Rattle.raster.specs.declared.rect.Rect.{Rect}
use Rattle.raster.specs.Encoding.{raw_bytes}
use Rattle.raster.specs.Screen.{part_of}
use Rattle.raster.proofs.Places.{length_values}
use Rattle.hextile_codec.proofs.Drawings.{raw_len}
use Rattle.update_encoder.specs.Answer.{colours_in, pixels_in}
use Rattle.update_encoder.specs.Coming.{shown}
use Rattle.update_encoder.proofs.Fronts.{pixels_few}
use Rattle.update_encoder.proofs.rectangle.copy_encoded.Goals as goal

pub split_at_mut-front-requires : goal.split_at_mut-front-requires
split_at_mut-front-requires c =
    let format : PixelFormat = c.args.style.now.format in
    let area : Rect = c.args.area.now in
    let pixels : List ℕ = pixels_in format (shown c.args.cut.now) area in
    let count : length pixels ≡ area.w * area.h = length-map (colours_in (shown c.args.cut.now) area) (tint format) ∙ length_values area.w area.h (part_of area (shown c.args.cut.now)) in
    let raw : length (raw_bytes format pixels) ≡ pixel_len format * (area.w * area.h) = raw_len format pixels ∙ ap (λ n. pixel_len format * n) count in
    let fewer = ltb-true _ _ c.in_ok-bytes.ensures.saves in
    let len = ap length c.in_ok-bytes.ensures.form_is in
    omega (arith, fewer, len, raw, pixels_few format (area.w * area.h), c.requires.room)
