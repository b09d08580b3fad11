-- A line that is read has from 1 to 32 places of each role. Serving asks for that.
use Rattle.std.proofs.Common.{List}
use Rattle.clap.specs.Words.{Text}
use Rattle.settings.specs.ByRole.{HasPlaces}
use Rattle.settings.specs.declared.values.Settings.{Settings}
use Rattle.command_line.specs.declared.task.Task.TheVariants.{Serve}
use Rattle.command_line.specs.Tasks.{IsAsked}

pub has_places : (words : List Text) (s : Settings) → IsAsked words (Serve s) → HasPlaces s
has_places words s asked =
    let set = asked.2 in
    (set.full_range.0, set.full_range.1, set.view_range.0, set.view_range.1)
