use Rattle.replay.proofs.Lines.{cut_found, cut_none}
use Rattle.replay.proofs.line.split.Goals as goal

pub returns : goal.returns
returns c = record { found = cut_found c.args.text.now c.split_once.result c.split_once.ensures.cases; none = cut_none c.args.text.now c.split_once.result c.split_once.ensures.cases }
