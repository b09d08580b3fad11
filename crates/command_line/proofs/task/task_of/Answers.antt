-- A line of `control` or of `show` has what stands behind its first word, and so does one of `serve` whose options can't
-- be read.
use Rattle.std.proofs.Common.{rules, map}
use Rattle.std.specs.String.{string_bytes}
use Rattle.std.proofs.lemmas.List.{length-map}
use Rattle.command_line.proofs.Lines.{is_no_task}
use Rattle.command_line.proofs.task.task_of.Goals as goal

pub returns-in-control : goal.returns-in-control
returns-in-control c = (map string_bytes c.in-Some.rest.now, search rules, rw (length-map c.in-Some.rest.now string_bytes) c.if-rest-gt1.true)

pub returns-in-show : goal.returns-in-show
returns-in-show c = (map string_bytes c.in-Some.rest.now, search rules, rw (length-map c.in-Some.rest.now string_bytes) c.if-rest-gt1-2.true)

pub returns-in-Err : goal.returns-in-Err
returns-in-Err c = is_no_task _ _ _ (search rules) c.in-Err.ensures.err
