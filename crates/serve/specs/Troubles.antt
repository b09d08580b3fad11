-- For which fault an error of the system's stands, and after which no host has its turn (own).
use Rattle.std.specs.Prelude.{Bool, true, false}
use Rattle.std.specs.declared.io.ErrorKind.{ErrorKind}
use Rattle.std.specs.declared.io.ErrorKind.TheVariants.{OutOfMemory}
use Rattle.fault.specs.declared.kinds.Fault.{Fault}
use Rattle.fault.specs.declared.kinds.Fault.TheVariants.{LinkFailed, Memory}

-- Memory that was refused has a fault of its own. Every other error is that of a link.
abbrev pub fault_for : ErrorKind → Fault
fault_for OutOfMemory = Memory
fault_for kind = LinkFailed

-- Memory was refused.
abbrev pub is_final_fault : Fault → Bool
is_final_fault Memory = true
is_final_fault fault = false
