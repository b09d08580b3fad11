-- The task that the words ask for is the one that was done.
use Rattle.command_line.specs.declared.task.Task.TheVariants.{Replay, Serve, Control, Show}
use Rattle.command_line.proofs.program.perform.Goals as goal

pub returns-in-Replay : goal.returns-in-Replay
returns-in-Replay g c = (Replay, c.in-Replay.ensures, c.plays.ensures)

pub returns-in-Control : goal.returns-in-Control
returns-in-Control g c = (Control, c.in-Control.ensures, c.asks.ensures)

pub returns-in-Show : goal.returns-in-Show
returns-in-Show g c = (Show, c.in-Show.ensures, c.shows.ensures)

pub returns-in-Serve : goal.returns-in-Serve
returns-in-Serve g c = (Serve c.in-Serve.settings, c.in-Serve.ensures, c.serves.ensures)
