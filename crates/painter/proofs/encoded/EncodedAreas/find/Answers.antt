use Rattle.std.proofs.Common.{◌≡◌, ℕ, ◌-◌, ◌<◌, List, length, take, drop, get_or, sym, ap, subst, ◌∙◌}
use Rattle.std.proofs.lemmas.Bool.{not-false}
use Rattle.pixel_format.specs.PixelFormat.{PixelFormat}
use Rattle.raster.specs.declared.rect.Rect.{Rect}
use Rattle.painter.specs.declared.encoded.EncodedArea.{EncodedArea}
use Rattle.painter.specs.Encoded.{IsEncodedAt, IsHextileOf}
use Rattle.painter.proofs.EncodedLaws.{found_part, same_format, same_rect}
use Rattle.painter.proofs.encoded.EncodedAreas.find.Goals as goal

pub returns : goal.returns
returns c = λ colours n are.
    let own : PixelFormat = c.args.self.now.format in
    let format : PixelFormat = c.args.format.now in
    let bytes : List ℕ = c.args.self.now.bytes.items in
    let encoded : EncodedArea = c.in_ok-encoded.encoded.now in
    let one : own ≡ format = same_format own format (not-false _ (sym c.if-ne.ensures)) in
    let here : encoded.area ≡ c.args.area.now = same_rect encoded.area c.args.area.now (not-false _ (sym c.if-ne-2.ensures)) in
    let listed : List EncodedArea = c.args.self.now.list.items in
    let at : ℕ = c.partition_point-at.result in
    let found = c.in_ok-encoded.ensures.lookup.3 in
    let there : at < length listed = subst (λ (l : List EncodedArea). at < length l) c.as_slice-list.ensures.value found.0 in
    let is_one : encoded ≡ get_or listed at encoded = found.1 encoded ∙ ap (λ (l : List EncodedArea). get_or l at encoded) c.as_slice-list.ensures.value in
    let is : IsEncodedAt own colours n bytes encoded = subst (IsEncodedAt own colours n bytes) (sym is_one) (are at encoded there) in
    let part : List ℕ = take (encoded.end - encoded.start) (drop encoded.start bytes) in
    let shows : IsHextileOf format colours c.args.area.now part = subst (λ (f : PixelFormat). IsHextileOf f colours c.args.area.now part) one (subst (λ (r : Rect). IsHextileOf own colours r part) here is.is_hextile) in
    found_part c.get-2.result _ _ (λ lent. IsHextileOf format colours c.args.area.now lent.now) c.get-2.ensures.lookup.0
    (λ lent has. subst (IsHextileOf format colours c.args.area.now) (sym (has.2 ∙ ap (λ (b : List ℕ). take (encoded.end - encoded.start) (drop encoded.start b)) c.as_slice.ensures.value)) shows)
