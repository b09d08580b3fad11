-- The number of each reason why a recording can't be read (own).
use Rattle.std.specs.Prelude.{ℕ}
use Rattle.recording.specs.declared.bad.BadRecording.{BadRecording}
use Rattle.recording.specs.declared.bad.BadRecording.TheVariants.{NotARecording, BlockTooLong, TimeGoesBack, Memory}

abbrev pub number_of : BadRecording → ℕ
number_of NotARecording = 1
number_of BlockTooLong = 2
number_of TimeGoesBack = 3
number_of Memory = 20
