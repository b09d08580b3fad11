use Rattle.replay.proofs.Lines.{at_none, bad_hex, bad_viewer, no_bytes, viewer_none}
use Rattle.replay.proofs.line.viewer_line.Goals as goal

pub returns-in_default-clause-reads : goal.returns-in_default-clause-reads
returns-in_default-clause-reads c = viewer_none c.args.text.now (no_bytes c.args.text.now c.in_default.ensures.none)

pub returns-in_default-viewer_number-clause-reads : goal.returns-in_default-viewer_number-clause-reads
returns-in_default-viewer_number-clause-reads c =
    viewer_none c.args.text.now (bad_viewer c.args.text.now c.in-Some.viewer.now c.in-Some.hex.now c.in-Some.ensures.found.0 c.in-Some.ensures.found.1 c.in_default-viewer_number.ensures.none)

pub returns-in-None-clause-reads : goal.returns-in-None-clause-reads
returns-in-None-clause-reads c = viewer_none c.args.text.now (bad_hex c.args.text.now c.in-Some.viewer.now c.in-Some.hex.now c.in-Some.ensures.found.0 c.in-Some.ensures.found.1 (at_none _ c.in_ok-bytes.field-0 c.in-None.is c.in_ok-bytes.ensures.none))
