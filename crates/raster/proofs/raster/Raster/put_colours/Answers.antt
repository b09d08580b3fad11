use Rattle.std.proofs.Common.{◌∙◌}
use Rattle.raster.proofs.Redrawn.{redrawn, same_size}
use Rattle.raster.proofs.raster.Raster.put_colours.Goals as goal

pub put_colours-requires-clause-size : goal.put_colours-requires-clause-size
put_colours-requires-clause-size c = rw c.as_mut_slice.ensures.value c.self.invariant.count

pub invariant_of-self : goal.invariant_of-self
invariant_of-self c = same_size _ c.self.inside.colours.len c.put_colours.new.values _ (c.put_colours.auto.values ∙ c.as_mut_slice.ensures.len) (rw c.as_mut_slice.ensures.value at c.as_mut_slice.ensures.len) c.self.invariant

pub returns : goal.returns
returns c =
    rw (← c.self.view_is)
    (redrawn _ _ c.self.inside.colours.len c.put_colours.new.values _ (c.put_colours.auto.values ∙ c.as_mut_slice.ensures.len) (rw c.as_mut_slice.ensures.value at c.put_colours.ensures))
