use Rattle.std.proofs.Common.{◌∙◌}
use Rattle.recording_index.proofs.Entries.{line_test}
use Rattle.recording_index.proofs.index.begins_as_line.Goals as goal

pub returns : goal.returns
returns c = c.eq.ensures ∙ line_test c.args.bytes.now c.min-count.result c.min-count.ensures
