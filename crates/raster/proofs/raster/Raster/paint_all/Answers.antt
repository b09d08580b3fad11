use Rattle.std.proofs.Common.{◌∙◌}
use Rattle.raster.proofs.Redrawn.{redrawn, same_size}
use Rattle.raster.proofs.raster.Raster.paint_all.Goals as goal

pub apply_paints-requires-clause-size : goal.apply_paints-requires-clause-size
apply_paints-requires-clause-size c = rw c.as_mut_slice.ensures.value c.self.invariant.count

pub apply_paints-requires-clause-fits : goal.apply_paints-requires-clause-fits
apply_paints-requires-clause-fits c = rw (← c.self.view_is) at c.requires

pub invariant_of-self : goal.invariant_of-self
invariant_of-self c = same_size _ c.self.inside.colours.len c.apply_paints.new.values _ (c.apply_paints.auto.values ∙ c.as_mut_slice.ensures.len) (rw c.as_mut_slice.ensures.value at c.as_mut_slice.ensures.len) c.self.invariant

pub returns : goal.returns
returns c =
    rw (← c.self.view_is)
    (redrawn _ _ c.self.inside.colours.len c.apply_paints.new.values _ (c.apply_paints.auto.values ∙ c.as_mut_slice.ensures.len) (rw c.as_mut_slice.ensures.value at c.apply_paints.ensures))
