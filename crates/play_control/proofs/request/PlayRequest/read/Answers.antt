-- A line that is none of the words, and of which the longer request says nothing, says none.
use Rattle.play_control.proofs.Lines.{no_request}
use Rattle.play_control.proofs.request.PlayRequest.read.Goals as goal

pub returns-in_default-clause-none : goal.returns-in_default-clause-none
returns-in_default-clause-none c =
    no_request c.args.line.now c.seek_request.result c.in_default.not-pause c.in_default.not-play c.seek_request.ensures.none
