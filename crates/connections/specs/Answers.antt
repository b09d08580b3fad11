-- What a link over TCP answers where the system answered a read or a write.
use Rattle.std.specs.Prelude.{ℕ, Bool, true, false, ◌==◌, if◌then◌else◌, Result, Ok, Err}
use Rattle.std.specs.IoError.{error_kind}
use Rattle.std.specs.declared.io.Error.{Error}
use Rattle.std.specs.declared.io.ErrorKind.{ErrorKind}
use Rattle.std.specs.declared.io.ErrorKind.TheVariants.{WouldBlock, Interrupted}
use Rattle.link.specs.declared.link.Took.{Took}
use Rattle.link.specs.declared.link.Took.TheVariants as took
use Rattle.link.specs.declared.link.Gave.{Gave}
use Rattle.link.specs.declared.link.Gave.TheVariants as gave

-- The error says only that nothing could be done now. TimedOut isn't such an error: the system has given the peer up.
abbrev pub is_passing : ErrorKind → Bool
is_passing WouldBlock = true
is_passing Interrupted = true
is_passing _ = false

-- A read of no byte is the peer's end.
abbrev pub took_for : Result ℕ Error → Took
took_for (Ok count) = if count == 0 then took.End else took.Bytes count
took_for (Err error) = if is_passing (error_kind error) then took.Nothing else took.Failed

-- A write of no byte is a failure.
abbrev pub gave_for : Result ℕ Error → Gave
gave_for (Ok count) = if count == 0 then gave.Failed else gave.Bytes count
gave_for (Err error) = if is_passing (error_kind error) then gave.Nothing else gave.Failed
