-- The parts of a viewer's message whose length is fixed.
use Rattle.std.specs.Prelude.{ℕ}
use Rattle.rfb_wire.specs.declared.client_reader.part.Part.{Part}
use Rattle.rfb_wire.specs.declared.client_reader.part.Part.TheVariants.{Kind, Format, Count, Number, Ask, Key, Pointer, Length}

-- How many bytes each part has.
abbrev pub len_of : Part → ℕ
len_of Kind = 1
len_of Format = 19
len_of Count = 3
len_of (Number left found) = 4
len_of Ask = 9
len_of Key = 7
len_of Pointer = 5
len_of Length = 7
