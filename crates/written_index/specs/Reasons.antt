-- Why no index is written where none can be made (own).
use Rattle.std.specs.Prelude.{◌≡◌}
use Rattle.fault.specs.declared.kinds.Fault.TheVariants as fault
use Rattle.recording.specs.declared.bad.BadRecording.TheVariants as recording
use Rattle.rebuilt_index.specs.declared.bad.BadRebuild.{BadRebuild}
use Rattle.rebuilt_index.specs.declared.bad.BadRebuild.TheVariants.{Recording, Session}
use Rattle.written_index.specs.declared.error.IndexError.{IndexError}
use Rattle.written_index.specs.declared.error.IndexError.TheVariants.{Memory, Rebuild}

-- The reason is told as it is, and memory that was refused as that.
abbrev pub IsReason : BadRebuild → IndexError → Type 0
IsReason (Recording recording.Memory) error = error ≡ Memory
IsReason (Session fault.Memory) error = error ≡ Memory
IsReason bad error = error ≡ Rebuild bad
