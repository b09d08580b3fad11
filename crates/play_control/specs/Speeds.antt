-- Speeds, as they are written: a number of one or two decimal digits, perhaps with a point and one or two further
-- digits.
use Rattle.std.specs.Prelude.{◌≡◌, ℕ, ◌+◌, ◌*◌, ◌<◌, ◌≤◌, ◌⊎◌, List, length, slice_index}
use Rattle.play_control.specs.Times.{IsTwo}

-- The text begins with a number of so many digits, one or two, without a leading zero.
abbrev pub IsWhole : (len : ℕ) → List ℕ → ℕ → Type 0
IsWhole len text n =
    ((len ≡ 1) × (n < 10) × (slice_index text 0 ≡ 48 + n))
    ⊎ ((len ≡ 2) × (10 ≤ n) × (n < 100) × IsTwo (slice_index text 0) (slice_index text 1) n)

-- The text ends with one digit or two, which stand from this place on behind a point. They say so many hundredths.
abbrev pub IsPart : (place : ℕ) → List ℕ → ℕ → Type 0
IsPart place text n =
    ((length text ≡ place + 1) × (digit : ℕ) × (digit < 10) × (slice_index text place ≡ 48 + digit) × (n ≡ digit * 10))
    ⊎ ((length text ≡ place + 2) × (n < 100) × IsTwo (slice_index text place) (slice_index text (place + 1)) n)

-- The text has a point behind so many digits. It says so many hundredths.
abbrev pub SpellsWith : (digits : ℕ) → List ℕ → ℕ → Type 0
SpellsWith digits text n = (slice_index text digits ≡ 46)
    × (whole part : ℕ) × IsWhole digits text whole × IsPart (digits + 1) text part × (n ≡ whole * 100 + part)

-- The text is a whole number, or one with a point behind one digit or two. It says so many hundredths.
abbrev pub SpellsSpeed : List ℕ → ℕ → Type 0
SpellsSpeed text n =
    ((whole : ℕ) × IsWhole (length text) text whole × (n ≡ whole * 100)) ⊎ SpellsWith 1 text n ⊎ SpellsWith 2 text n
