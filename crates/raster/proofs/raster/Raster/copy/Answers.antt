use Rattle.std.proofs.Common.{◌∙◌}
use Rattle.raster.proofs.Redrawn.{redrawn, same_size}
use Rattle.raster.proofs.raster.Raster.copy.Goals as goal

pub copy-requires-clause-size : goal.copy-requires-clause-size
copy-requires-clause-size c = rw c.as_mut_slice.ensures.value c.self.invariant.count

pub copy-requires-clause-within : goal.copy-requires-clause-within
copy-requires-clause-within c = rw (← c.self.view_is) at c.requires.within

pub copy-requires-clause-source : goal.copy-requires-clause-source
copy-requires-clause-source c = rw (← c.self.view_is) at c.requires.source

pub invariant_of-self : goal.invariant_of-self
invariant_of-self c = same_size _ c.self.inside.colours.len c.copy.new.values _ (c.copy.auto.values ∙ c.as_mut_slice.ensures.len) (rw c.as_mut_slice.ensures.value at c.as_mut_slice.ensures.len) c.self.invariant

pub returns : goal.returns
returns c =
    rw (← c.self.view_is)
    (redrawn _ _ c.self.inside.colours.len c.copy.new.values _ (c.copy.auto.values ∙ c.as_mut_slice.ensures.len) (rw c.as_mut_slice.ensures.value at c.copy.ensures))
