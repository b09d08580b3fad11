use Rattle.std.proofs.Common.{ℕ, false, List, [], ◌∷◌, ◌++◌, map, refl, subst}
use Rattle.raster.specs.Screen.{Canvas, LooksLike, value_at}
use Rattle.raster.specs.Update.{Paint, Put}
use Rattle.copy_log.specs.Notes.{paint_of}
use Rattle.painter.specs.Drawing.{IsPaintedAround, drawn}
use Rattle.painter.specs.Painter.{Painting, IsPaintedOver}
use Rattle.painter.proofs.PaintingLaws.{marks_of}
use Rattle.painter.proofs.DrawingLaws.{painted_around}
use Rattle.painter.proofs.painter.Painter.end_drawing.Goals as goal

pub returns-clause-painted : goal.returns-clause-painted
returns-clause-painted c =
    let inside = c.self.inside in
    let w : ℕ = inside.raster.width in
    let h : ℕ = inside.raster.height in
    let old : Painting = record { width = w; height = h; colours = inside.raster.colours; copies = map paint_of inside.copies.items; leads = inside.leads; marks = inside.touched.stamps; area = inside.area; told = inside.told } in
    let new : Painting = record { width = w; height = h; colours = inside.raster.colours; copies = map paint_of inside.copies.items; leads = false; marks = c.touch.new.self.stamps; area = inside.area; told = inside.told } in
    subst (λ (v : Painting). (start : Canvas) (paints : List Paint) (colours : List ℕ) → IsPaintedAround start paints v.area v → LooksLike v.area.w v.area.h (drawn v) (value_at v.area.w colours) → IsPaintedOver start (paints ++ Put v.area colours ∷ []) new) c.self.view_is
    (λ start paints colours around shows.
    painted_around old new colours (record { width = refl; height = refl }) refl refl refl refl (marks_of w h 1 inside.area inside.touched c.touch.new.self c.self.invariant.1 c.self.invariant.2 c.touch.ensures) start paints around shows)
