-- The change of the definitions for which a change in the code stands.
use Rattle.shared_screen.specs.declared.change.ChangeKind.{ChangeKind}
use Rattle.shared_screen.specs.declared.change.ChangeKind.TheVariants as code
use Rattle.shared_screen.specs.History.{Change, Put, Raise}

abbrev pub change_of : ChangeKind → Change
change_of (code.Put patch) = Put patch.update
change_of (code.Raise number) = Raise number
