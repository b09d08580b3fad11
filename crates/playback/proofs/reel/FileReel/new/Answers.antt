-- Nothing was read yet, and no block is gone.
use Rattle.playback.proofs.Reeling.{reel_begins}
use Rattle.playback.proofs.reel.FileReel.new.Goals as goal

pub returns-clause-blocks : goal.returns-clause-blocks
returns-clause-blocks g c = reel_begins _ c.requires.start c.requires.none c.new.ensures
