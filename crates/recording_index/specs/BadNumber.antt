-- The number of each reason why an index can't be read (own).
use Rattle.std.specs.Prelude.{ℕ}
use Rattle.recording_index.specs.declared.bad.BadIndex.{BadIndex}
use Rattle.recording_index.specs.declared.bad.BadIndex.TheVariants.{NotAnIndex, TimeGoesBack, PlaceGoesBack, Memory}

abbrev pub number_of : BadIndex → ℕ
number_of NotAnIndex = 1
number_of TimeGoesBack = 2
number_of PlaceGoesBack = 3
number_of Memory = 20
