-- The numbers of the faults. Those from 1 to 14 are faults of the protocol, which the peer's bytes showed; 20 to 24 are
-- of memory, links and places; 30 and 31 are of queues and counts.
use Rattle.std.specs.Prelude.{ℕ}
use Rattle.fault.specs.declared.kinds.Fault.{Fault}
use Rattle.fault.specs.declared.kinds.Fault.TheVariants.{BadVersion, HostRefused, NoNone, SecurityFailed, BadScreen, UnknownMessage, RectOutside, UnknownEncoding, SubrectOutside, NoBackground, NoForeground, BadFormat, BadChoice, CopyOutside, Memory, LinkFailed, LinkEnded, Gone, NoPlace, QueueFull, NumbersOut}

-- The number of each fault.
abbrev pub number_of : Fault → ℕ
number_of BadVersion = 1
number_of (HostRefused reason) = 2
number_of NoNone = 3
number_of SecurityFailed = 4
number_of BadScreen = 5
number_of (UnknownMessage kind) = 6
number_of RectOutside = 7
number_of UnknownEncoding = 8
number_of SubrectOutside = 9
number_of NoBackground = 10
number_of NoForeground = 11
number_of BadFormat = 12
number_of BadChoice = 13
number_of CopyOutside = 14
number_of Memory = 20
number_of LinkFailed = 21
number_of LinkEnded = 22
number_of Gone = 23
number_of NoPlace = 24
number_of QueueFull = 30
number_of NumbersOut = 31
