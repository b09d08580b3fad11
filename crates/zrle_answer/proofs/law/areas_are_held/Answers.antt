use Rattle.zrle_answer.proofs.Held.{areas_are_held}
use Rattle.zrle_answer.proofs.law.areas_are_held.Goals as goal

pub returns : goal.returns
returns c = areas_are_held c.data_bring_one_thing.ensures c.parts_are_read.ensures
