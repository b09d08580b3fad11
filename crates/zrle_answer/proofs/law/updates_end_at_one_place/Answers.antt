use Rattle.zrle_answer.proofs.OneReading.{updates_end_at_one_place}
use Rattle.zrle_answer.proofs.law.updates_end_at_one_place.Goals as goal

pub returns : goal.returns
returns c = updates_end_at_one_place c.data_bring_one_thing.ensures
