use Rattle.std.proofs.Common.{◌∙◌}
use Rattle.raster.proofs.Redrawn.{redrawn, same_size}
use Rattle.raster.proofs.raster.Raster.fill.Goals as goal

pub fill-requires-clause-size : goal.fill-requires-clause-size
fill-requires-clause-size c = rw c.as_mut_slice.ensures.value c.self.invariant.count

pub fill-requires-clause-within : goal.fill-requires-clause-within
fill-requires-clause-within c = rw (← c.self.view_is) at c.requires

pub invariant_of-self : goal.invariant_of-self
invariant_of-self c = same_size _ c.self.inside.colours.len c.fill.new.values _ (c.fill.auto.values ∙ c.as_mut_slice.ensures.len) (rw c.as_mut_slice.ensures.value at c.as_mut_slice.ensures.len) c.self.invariant

pub returns : goal.returns
returns c =
    rw (← c.self.view_is)
    (redrawn _ _ c.self.inside.colours.len c.fill.new.values _ (c.fill.auto.values ∙ c.as_mut_slice.ensures.len) (rw c.as_mut_slice.ensures.value at c.fill.ensures))
