use Rattle.zrle_answer.proofs.OneStream.{data_are_one_stream}
use Rattle.zrle_answer.proofs.law.data_are_one_stream.Goals as goal

pub returns : goal.returns
returns c = data_are_one_stream
