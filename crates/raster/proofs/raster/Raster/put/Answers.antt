use Rattle.std.proofs.Common.{◌∙◌}
use Rattle.raster.proofs.Redrawn.{redrawn, same_size}
use Rattle.raster.proofs.raster.Raster.put.Goals as goal

pub put-requires-clause-size : goal.put-requires-clause-size
put-requires-clause-size c = rw c.as_mut_slice.ensures.value c.self.invariant.count

pub put-requires-clause-within : goal.put-requires-clause-within
put-requires-clause-within c = rw (← c.self.view_is) at c.requires.within

pub invariant_of-self : goal.invariant_of-self
invariant_of-self c = same_size _ c.self.inside.colours.len c.put.new.values _ (c.put.auto.values ∙ c.as_mut_slice.ensures.len) (rw c.as_mut_slice.ensures.value at c.as_mut_slice.ensures.len) c.self.invariant

pub returns : goal.returns
returns c =
    rw (← c.self.view_is)
    (redrawn _ _ c.self.inside.colours.len c.put.new.values _ (c.put.auto.values ∙ c.as_mut_slice.ensures.len) (rw c.as_mut_slice.ensures.value at c.put.ensures))
