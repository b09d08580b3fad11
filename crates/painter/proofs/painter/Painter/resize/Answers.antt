use Rattle.std.proofs.Common.{◌≤◌, ℕ, false, Some, List, [], ◌∷◌, ◌++◌, map, refl, subst, sym}
use Rattle.raster.specs.declared.rect.Rect.{Rect}
use Rattle.raster.specs.Screen.{Canvas}
use Rattle.raster.specs.Update.{Paint, Resized}
use Rattle.copy_log.specs.Notes.{paint_of}
use Rattle.painter.specs.Painter.{Painting, IsPaintedOver}
use Rattle.painter.proofs.PaintingLaws.{marks_of}
use Rattle.painter.proofs.Switches.{resized_painted}
use Rattle.painter.proofs.painter.Painter.resize.Goals as goal

pub returns-clause-painted : goal.returns-clause-painted
returns-clause-painted c =
    let w : ℕ = c.self.inside.raster.width in
    let h : ℕ = c.self.inside.raster.height in
    let whole : Rect = record { x = 0; y = 0; w = c.width.result; h = c.height.result } in
    let old : Painting = record { width = w; height = h; colours = c.self.inside.raster.colours; copies = map paint_of c.self.inside.copies.items; leads = c.self.inside.leads; marks = c.self.inside.touched.stamps; area = c.self.inside.area; told = c.self.inside.told } in
    let new : Painting =
    record { width = c.fill.new.self.width; height = c.fill.new.self.height; colours = c.fill.new.self.colours; copies = map paint_of c.self.inside.copies.items; leads = false; marks = c.touch.new.self.stamps; area = c.self.inside.area; told = Some c.args.size } in
    let fits : (c.args.size.width ≤ w) × (c.args.size.height ≤ h) = subst (λ (v : Painting). (c.args.size.width ≤ v.width) × (c.args.size.height ≤ v.height)) (sym c.self.view_is) c.requires in
    subst (λ (v : Painting). (start : Canvas) (paints : List Paint) → IsPaintedOver start paints v → IsPaintedOver start (paints ++ Resized c.args.size ∷ []) new) c.self.view_is
    (resized_painted old new c.args.size whole c.self.invariant.0 fits (rw (c.width.ensures, c.height.ensures) refl) (record { width = c.fill.ensures.width; height = c.fill.ensures.height }) refl refl refl c.fill.ensures.shows
    (marks_of w h 1 whole c.self.inside.touched c.touch.new.self c.self.invariant.1 c.self.invariant.2 c.touch.ensures))
