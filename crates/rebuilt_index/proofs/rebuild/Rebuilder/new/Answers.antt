-- The line is wanted first.
use Rattle.std.proofs.Common.{refl}
use Rattle.rebuilt_index.proofs.Rebuilt.{begun}
use Rattle.rebuilt_index.proofs.rebuild.Rebuilder.new.Goals as goal

pub returns : goal.returns
returns c = begun _ c.new.ensures refl c.new-2.ensures
