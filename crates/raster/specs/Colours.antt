-- The colours of a host's pixels.
use Rattle.std.specs.Prelude.{ℕ, ◌%◌, ◌^◌, List}
use Rattle.std.specs.Int.{w32, from_le_bytes}

-- The lower 24 bits of a host's pixel value are its colour (own).
abbrev pub colour_of : ℕ → ℕ
colour_of value = value % 2 ^ 24

-- The colour of a host's pixel, of four bytes.
abbrev pub colour_in : List ℕ → ℕ
colour_in bytes = colour_of (from_le_bytes w32 bytes)
