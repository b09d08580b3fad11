-- How `serve` ends: the exit status for what a run came to (own).
use Rattle.std.specs.Prelude.{ℕ, ◌≡◌, ◌⊎◌, Result, Ok, Err}
use Rattle.fault.specs.declared.kinds.Fault.{Fault}
use Rattle.fault.specs.declared.kinds.Fault.TheVariants.{Memory}

-- The exit status of a run: 0 where the host ended between two messages, 4 where memory was refused, else 3.
abbrev pub status_for : Result (Unit {0}) Fault → ℕ
status_for (Ok _) = 0
status_for (Err Memory) = 4
status_for (Err _) = 3

-- A status with which the program may end once its command line was read.
abbrev pub IsStatus : ℕ → Type 0
IsStatus status = (status ≡ 0) ⊎ ((status ≡ 3) ⊎ (status ≡ 4))
