-- A line that is none of the words, and of which the longer requests say nothing, says none.
use Rattle.run_control.proofs.Calls.{no_request}
use Rattle.run_control.proofs.request.Request.read.Goals as goal

pub returns-in_default-clause-none : goal.returns-in_default-clause-none
returns-in_default-clause-none c =
    let not = c.in_default in
    no_request c.args.line.now c.longer_request.result not.not-state not.not-text not.not-drain not.not-undrain not.not-next not.not-stop c.longer_request.ensures.no_end c.longer_request.ensures.no_call
