use Rattle.std.specs.Fmt.{decimal}
use Rattle.replay.specs.Line.{access_word}
use Rattle.replay.proofs.Lines.{bad_access, no_cut, no_viewer, none_so}
use Rattle.replay.proofs.line.place_of.Goals as goal

pub returns-in_err-viewer-clause-none : goal.returns-in_err-viewer-clause-none
returns-in_err-viewer-clause-none c = none_so _ c.from_residual.result (λ n access from to e. no_cut c.args.text.now (decimal n) (access_word access) c.in_err-viewer.ensures.none e)

pub returns-in_err-access-clause-none : goal.returns-in_err-access-clause-none
returns-in_err-access-clause-none c =
    none_so _ c.from_residual-in_err-access.result (bad_access c.args.text.now c.in_ok-viewer.viewer.now c.in_ok-viewer.word.now c.in_ok-viewer.ensures.found.0 c.in_ok-viewer.ensures.found.1 c.in_err-access.ensures.none)

pub returns-in_err-viewer-2-clause-none : goal.returns-in_err-viewer-2-clause-none
returns-in_err-viewer-2-clause-none c =
    none_so _ c.from_residual-in_err-viewer-2.result (no_viewer c.args.text.now c.in_ok-viewer.viewer.now c.in_ok-viewer.word.now c.in_ok-viewer.ensures.found.0 c.in_ok-viewer.ensures.found.1 c.in_err-viewer-2.ensures.none)
