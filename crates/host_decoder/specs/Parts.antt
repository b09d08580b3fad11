-- The parts of a host's message whose length is known before they come (RFC 6143, 7.6).
use Rattle.std.specs.Prelude.{ℕ}
use Rattle.rfb_wire.specs.ServerMessage.{ServerMessage, SetColorMapEntries, LostText}
use Rattle.host_decoder.specs.declared.part.HostPart.{HostPart}
use Rattle.host_decoder.specs.declared.part.HostPart.TheVariants.{Kind, Count, Area, Encoding, Outside, Colours, Length}
use Rattle.host_decoder.specs.declared.passed.Passed as declared
use Rattle.host_decoder.specs.declared.passed.Passed.TheVariants as passed

-- How many bytes each part has.
abbrev pub len_of : HostPart → ℕ
len_of Kind = 1
len_of Count = 3
len_of (Area left) = 8
len_of (Encoding left area) = 4
len_of Outside = 4
len_of Colours = 5
len_of Length = 7

-- What is read past: a colour map, or a text of this many bytes.
abbrev pub Passed : Type 0
Passed = declared.Passed

-- The message whose bytes are read past.
abbrev pub message_of : Passed → ServerMessage
message_of passed.Colours = SetColorMapEntries
message_of (passed.Text len) = LostText len
