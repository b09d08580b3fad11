use Rattle.std.proofs.Common.{◌∙◌, sym}
use Rattle.joined_runs.specs.Found.{subrect_of}
use Rattle.joined_runs.proofs.RowHas.{has_by_len}
use Rattle.joined_runs.proofs.joining.has_run.Goals as goal

pub returns-then-begins : goal.returns-then-begins
returns-then-begins c = λ y. has_by_len c.args.row.now (subrect_of c.args.run.now) c.run_len.result y c.requires (sym c.begins.ensures ∙ c.if-begins.true) c.run_len.ensures
