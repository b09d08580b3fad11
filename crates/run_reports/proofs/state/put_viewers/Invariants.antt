use Rattle.std.proofs.Common.{◌≡◌, take}
use Rattle.std.specs.String.{string_bytes}
use Rattle.run_reports.specs.State.{after_viewers}
use Rattle.run_reports.proofs.state.put_viewers.Given as goal

-- The lines of the viewers so far were put.
abbrev pub invariant-loop-viewer : goal.invariant-loop-viewer
invariant-loop-viewer l = string_bytes l.text ≡ after_viewers (string_bytes l.initial.text) (take l.viewer-index l.viewers)
