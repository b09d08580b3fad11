use Rattle.std.proofs.Common.{ℕ, List, [], ◌∷◌, ◌++◌, subst, sym}
use Rattle.raster.specs.declared.painting.Paint as code
use Rattle.raster.specs.Painted.{paint_of}
use Rattle.raster.specs.Update.{Put}
use Rattle.painter.specs.Painter.{IsPaintedOver}
use Rattle.painter.proofs.painter.Painter.paint.Goals as goal

pub returns-in-Put-clause-painted : goal.returns-in-Put-clause-painted
returns-in-Put-clause-painted c start paints stands =
    subst (λ (p : code.Paint). IsPaintedOver start (paints ++ paint_of p ∷ []) c.put.new.self) (sym c.in-Put.is)
    (subst (λ (xs : List ℕ). IsPaintedOver start (paints ++ Put c.in-Put.area xs ∷ []) c.put.new.self) c.as_slice.ensures.value (c.put.ensures.painted start paints stands))

pub returns-in-Copy-clause-painted : goal.returns-in-Copy-clause-painted
returns-in-Copy-clause-painted c start paints stands =
    subst (λ (p : code.Paint). IsPaintedOver start (paints ++ paint_of p ∷ []) c.copy.new.self) (sym c.in-Copy.is) (c.copy.ensures.painted start paints stands)
