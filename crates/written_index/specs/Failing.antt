-- Why no index is written (own).
use Rattle.std.specs.Prelude.{ℕ, List, Result, Ok, Err}
use Rattle.fault.specs.declared.kinds.Fault.TheVariants as fault
use Rattle.recording.specs.declared.bad.BadRecording.TheVariants as recording
use Rattle.rebuilt_index.specs.declared.bad.BadRebuild.{BadRebuild}
use Rattle.rebuilt_index.specs.declared.bad.BadRebuild.TheVariants.{Recording, Session}
use Rattle.rebuilt_index.specs.Failing.{HasNoIndex}
use Rattle.written_index.specs.declared.error.IndexError.{IndexError}
use Rattle.written_index.specs.declared.error.IndexError.TheVariants.{Input, Rebuild, Memory, HasIndex, Output}

-- The file was made, with these bytes; or there is one already; or it can't be made, or takes no more.
abbrev pub MakesAs : Result (Unit {0}) IndexError → (has : List ℕ → Type 0) → (is_there has_failed : Type 0) → (bytes : List ℕ) → Type 0
MakesAs (Ok done) has is_there has_failed bytes = has bytes
MakesAs (Err HasIndex) has is_there has_failed bytes = is_there
MakesAs (Err (Output error)) has is_there has_failed bytes = has_failed
MakesAs (Err (Input error)) has is_there has_failed bytes = ⊥
MakesAs (Err (Rebuild bad)) has is_there has_failed bytes = ⊥
MakesAs (Err Memory) has is_there has_failed bytes = ⊥

-- Memory that was refused is told as that, and not as this.
abbrev pub IsNotMemory : BadRebuild → Type 0
IsNotMemory (Recording recording.Memory) = ⊥
IsNotMemory (Session fault.Memory) = ⊥
IsNotMemory bad = Unit {0}

-- Why there is no index of what was read of a recording: memory was refused; it has none (`HasNoIndex`), for a reason
-- other than that; or its file wasn't made. These facts say that the recording's file has failed, that there is an
-- index already, and that it can't be made.
abbrev pub IsNotWritten : (file_has_failed is_there cannot : Type 0) → IndexError → (read : List ℕ) → Type 0
IsNotWritten file_has_failed is_there cannot (Input error) read = ⊥
IsNotWritten file_has_failed is_there cannot (Rebuild bad) read = IsNotMemory bad × HasNoIndex file_has_failed bad read
IsNotWritten file_has_failed is_there cannot Memory read = Unit {0}
IsNotWritten file_has_failed is_there cannot HasIndex read = is_there
IsNotWritten file_has_failed is_there cannot (Output error) read = cannot

-- Where that is told of a file of the system, some bytes were read for which there is no index.
abbrev pub IsToldOf : IndexError → Type 0
IsToldOf (Rebuild bad) = (read : List ℕ) × IsNotMemory bad × HasNoIndex (Unit {0}) bad read
IsToldOf (Input error) = Unit {0}
IsToldOf Memory = Unit {0}
IsToldOf HasIndex = Unit {0}
IsToldOf (Output error) = Unit {0}
