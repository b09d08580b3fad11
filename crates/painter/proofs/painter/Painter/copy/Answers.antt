use Rattle.std.proofs.Common.{◌≡◌, ◌<◌, ℕ, List, [], ◌∷◌, ◌++◌, length, map, refl, subst, sym, ap, ◌∙◌, arith}
use Rattle.std.specs.Prelude.{nat_lt}
use Rattle.std.proofs.lemmas.Bool.{both_ways}
use Rattle.std.proofs.lemmas.List.{length-map, map_push}
use Rattle.raster.specs.declared.rect.Rect.{Rect}
use Rattle.raster.specs.Screen.{Canvas, IsWithin}
use Rattle.raster.specs.Update.{Paint, Copy}
use Rattle.copy_log.specs.Notes.{paint_of}
use Rattle.copy_log.specs.declared.copy_rect.CopyRect.{CopyRect}
use Rattle.copy_log.specs.declared.note.TheConstants.{MOST_COPIES}
use Rattle.painter.specs.Painter.{Painting, IsPaintedOver}
use Rattle.painter.proofs.CopyLaws.{pushed}
use Rattle.painter.proofs.PaintingLaws.{copied_more, marks_of, painted_more}
use Rattle.painter.proofs.painter.Painter.copy.Goals as goal

pub returns-then-self-clause-painted : goal.returns-then-self-clause-painted
returns-then-self-clause-painted c =
    let inside = c.self.inside in
    let w : ℕ = inside.raster.width in
    let h : ℕ = inside.raster.height in
    let copies : List CopyRect = inside.copies.items in
    let more : List CopyRect = c.push.new.self.items in
    let copy : CopyRect = record { area = c.args.area; x = c.args.x; y = c.args.y } in
    let old : Painting = record { width = w; height = h; colours = inside.raster.colours; copies = map paint_of copies; leads = inside.leads; marks = inside.touched.stamps; area = inside.area; told = inside.told } in
    let new : Painting = record { width = c.copy.new.self.width; height = c.copy.new.self.height; colours = c.copy.new.self.colours; copies = map paint_of more; leads = nat_lt c.len.result MOST_COPIES; marks = inside.touched.stamps; area = inside.area; told = inside.told } in
    let within : IsWithin c.args.area w h = subst (λ (v : Painting). IsWithin c.args.area v.width v.height) (sym c.self.view_is) c.requires.within in
    let from : Rect = record { x = c.args.x; y = c.args.y; w = c.args.area.w; h = c.args.area.h } in
    let source : IsWithin from w h = subst (λ (v : Painting). IsWithin from v.width v.height) (sym c.self.view_is) c.requires.source in
    let few : length copies < MOST_COPIES = c.self.invariant.6 c.if-self.true in
    let kept : more ≡ copies ++ copy ∷ [] = c.push.ensures.items ∙ pushed c.push.result (copies ++ copy ∷ []) copies (c.push.ensures.succeeds (omega (arith, few, c.self.invariant.7))) in
    let count : c.len.result ≡ length (map paint_of more) = omega (arith, c.len.ensures, length-map more paint_of) in
    subst (λ (v : Painting). (start : Canvas) (paints : List Paint) → IsPaintedOver start paints v → IsPaintedOver start (paints ++ Copy c.args.area c.args.x c.args.y ∷ []) new) c.self.view_is
    (copied_more old new c.args.area c.args.x c.args.y (within, source) (record { width = c.copy.ensures.width; height = c.copy.ensures.height }) refl (ap (map paint_of) kept ∙ map_push paint_of copies copy)
    (ap (λ n. nat_lt n MOST_COPIES) count) c.if-self.true (omega (arith, few, length-map copies paint_of)) refl c.copy.ensures.shows)

pub returns-else-self-clause-painted : goal.returns-else-self-clause-painted
returns-else-self-clause-painted c =
    let inside = c.self.inside in
    let w : ℕ = inside.raster.width in
    let h : ℕ = inside.raster.height in
    let old : Painting = record { width = w; height = h; colours = inside.raster.colours; copies = map paint_of inside.copies.items; leads = inside.leads; marks = inside.touched.stamps; area = inside.area; told = inside.told } in
    let new : Painting = record { width = c.copy.new.self.width; height = c.copy.new.self.height; colours = c.copy.new.self.colours; copies = map paint_of inside.copies.items; leads = inside.leads; marks = c.touch.new.self.stamps; area = inside.area; told = inside.told } in
    let within : IsWithin c.args.area w h = subst (λ (v : Painting). IsWithin c.args.area v.width v.height) (sym c.self.view_is) c.requires.within in
    let from : Rect = record { x = c.args.x; y = c.args.y; w = c.args.area.w; h = c.args.area.h } in
    let source : IsWithin from w h = subst (λ (v : Painting). IsWithin from v.width v.height) (sym c.self.view_is) c.requires.source in
    subst (λ (v : Painting). (start : Canvas) (paints : List Paint) → IsPaintedOver start paints v → IsPaintedOver start (paints ++ Copy c.args.area c.args.x c.args.y ∷ []) new) c.self.view_is
    (painted_more old new (Copy c.args.area c.args.x c.args.y) (within, source) (record { width = c.copy.ensures.width; height = c.copy.ensures.height }) refl refl c.if-self.false (λ is led. both_ways inside.leads c.if-self.false led) c.copy.ensures.shows
    (marks_of w h 1 c.args.area inside.touched c.touch.new.self c.self.invariant.1 c.self.invariant.2 c.touch.ensures))
