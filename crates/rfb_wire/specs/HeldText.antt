-- How a text goes on by what a reader holds of it, in a message of either direction (RFC 6143, 7.5.6 and 7.6.4).
use Rattle.std.specs.Prelude.{ℕ, List, ◌++◌}
use Rattle.byte_reading.specs.Reading.{Reading, Done, ◌>>=◌, bytes}

-- These bytes of a text have come, and this many are left.
abbrev pub kept_text : {A : Type 0} → (List ℕ → A) → List ℕ → ℕ → Reading A
kept_text make kept left = bytes left >>= λ others. Done (make (kept ++ others))
