use Rattle.std.proofs.Common.{ℕ, false, List, [], ◌∷◌, ◌++◌, map, refl, subst, sym}
use Rattle.raster.specs.Screen.{Canvas, IsWithin}
use Rattle.raster.specs.Update.{Paint, Put}
use Rattle.copy_log.specs.Notes.{paint_of}
use Rattle.painter.specs.Painter.{Painting, IsPaintedOver}
use Rattle.painter.proofs.CopyLaws.{not_late}
use Rattle.painter.proofs.PaintingLaws.{marks_of, painted_more}
use Rattle.painter.proofs.painter.Painter.put.Goals as goal

pub returns-clause-painted : goal.returns-clause-painted
returns-clause-painted c =
    let w : ℕ = c.self.inside.raster.width in
    let h : ℕ = c.self.inside.raster.height in
    let old : Painting = record { width = w; height = h; colours = c.self.inside.raster.colours; copies = map paint_of c.self.inside.copies.items; leads = c.self.inside.leads; marks = c.self.inside.touched.stamps; area = c.self.inside.area; told = c.self.inside.told } in
    let new : Painting = record { width = c.put.new.self.width; height = c.put.new.self.height; colours = c.put.new.self.colours; copies = map paint_of c.self.inside.copies.items; leads = false; marks = c.touch.new.self.stamps; area = c.self.inside.area; told = c.self.inside.told } in
    let within : IsWithin c.args.area w h = subst (λ (v : Painting). IsWithin c.args.area v.width v.height) (sym c.self.view_is) c.requires.within in
    subst (λ (v : Painting). (start : Canvas) (paints : List Paint) → IsPaintedOver start paints v → IsPaintedOver start (paints ++ Put c.args.area c.args.colours.now ∷ []) new) c.self.view_is
    (painted_more old new (Put c.args.area c.args.colours.now) (within, c.requires.count) (record { width = c.put.ensures.width; height = c.put.ensures.height }) refl refl refl (not_late c.self.inside.leads (Put c.args.area c.args.colours.now) refl) c.put.ensures.shows
    (marks_of w h 1 c.args.area c.self.inside.touched c.touch.new.self c.self.invariant.1 c.self.invariant.2 c.touch.ensures))
