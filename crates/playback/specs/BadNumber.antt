-- The number of each reason why a recording can't be played (own). Those of the recording's form keep theirs.
use Rattle.std.specs.Prelude.{ℕ}
use Rattle.recording.specs.BadNumber.{number_of as of_recording}
use Rattle.playback.specs.declared.bad.BadPlayback.{BadPlayback}
use Rattle.playback.specs.declared.bad.BadPlayback.TheVariants.{Recording, Opening, File}
use Rattle.playback.specs.declared.bad.BadOpening.TheVariants as opening

abbrev pub number_of : BadPlayback → ℕ
number_of (Recording bad) = of_recording bad
number_of (Opening opening.UnknownVersion) = 4
number_of (Opening opening.Refused) = 5
number_of (Opening opening.NoNone) = 6
number_of (Opening opening.NotPassed) = 7
number_of File = 8
