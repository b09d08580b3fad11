-- Bits of positions.
use Rattle.std.specs.Prelude.{ℕ, Bool, if◌then◌else◌}

-- The bit that a test sets.
abbrev pub bit_of : Bool → ℕ
bit_of test = if test then 1 else 0
