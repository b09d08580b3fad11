use Rattle.std.proofs.Common.{◌≡◌, ℕ, ◌+◌, ◌*◌, List, length, ap, subst, ◌∙◌, arith}
use Rattle.std.proofs.lemmas.List.{length-map}
use Rattle.pixel_format.specs.PixelFormat.{PixelFormat, tint}
use Rattle.raster.specs.declared.encoding.Encoding.TheVariants.{Hextile}
use Rattle.raster.specs.declared.rect.Rect.{Rect}
use Rattle.raster.specs.Screen.{Canvas, part_of, value_at, values_of}
use Rattle.raster.proofs.Places.{length_values, tinted_at}
use Rattle.joined_runs.specs.Joined.{IsEncodedAs}
use Rattle.hextile_codec.proofs.Alike.{list_back}
use Rattle.update_encoder.specs.Answer.{colours_in, pixels_in}
use Rattle.update_encoder.specs.Coming.{shown}
use Rattle.update_encoder.proofs.rectangle.encode_values.Goals as goal

pub encode_from-requires-clause-kept : goal.encode_from-requires-clause-kept
encode_from-requires-clause-kept c =
    let format : PixelFormat = c.args.style.now.format in
    let cut = c.args.cut.now in
    let area : Rect = c.args.area.now in
    let pixels : List ℕ = c.tint_area.new.pixels in
    let tinted : pixels ≡ pixels_in format (shown cut) area = c.tint_area.ensures in
    c.requires.kept (λ x y. value_at area.w pixels (0 + x) (0 + y)) (λ x y lx ly.
    let left : 0 + x ≡ x = omega arith in
    let top : 0 + y ≡ y = omega arith in
    ap (λ u. value_at area.w pixels u (0 + y)) left
    ∙ (ap (λ v. value_at area.w pixels x v) top ∙ (ap (λ (l : List ℕ). value_at area.w l x y) tinted ∙ tinted_at (tint format) area.w area.h (part_of area (shown cut)) x y lx ly)))

pub returns : goal.returns
returns c =
    let style = c.args.style.now in
    let format : PixelFormat = style.format in
    let cut = c.args.cut.now in
    let area : Rect = c.args.area.now in
    let pixels : List ℕ = c.tint_area.new.pixels in
    let tinted : pixels ≡ pixels_in format (shown cut) area = c.tint_area.ensures in
    let canvas : Canvas = λ x y. value_at area.w pixels (0 + x) (0 + y) in
    let count : length pixels ≡ area.w * area.h = ap length tinted ∙ (length-map (colours_in (shown cut) area) (tint format) ∙ length_values area.w area.h (part_of area (shown cut))) in
    let back : values_of area.w area.h canvas ≡ pixels_in format (shown cut) area =
    list_back area.w area.h canvas pixels count (λ x y lx ly.
    let left : 0 + x ≡ x = omega arith in
    let top : 0 + y ≡ y = omega arith in
    ap (λ u. value_at area.w pixels u (0 + y)) left ∙ ap (λ v. value_at area.w pixels x v) top) ∙ tinted in
    subst (λ values. IsEncodedAs style.runs Hextile format area.w area.h values c.encode_from.new.out c.encode_from.result) back c.encode_from.ensures
