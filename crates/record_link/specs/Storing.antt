-- What a file system may answer where bytes are appended to a file (POSIX, write).
use Rattle.std.specs.Prelude.{◌≡◌, ◌≤◌, ℕ, List, ◌++◌, length, take, Result, Ok, Err}
use Rattle.std.specs.declared.io.Error.{Error}

-- The first of these bytes were appended, and nothing else has changed. The answer says how many they were, unless it
-- is an error: then they may be any number.
abbrev pub AppendsAs : Result ℕ Error → (old new bytes : List ℕ) → Type 0
AppendsAs (Ok count) old new bytes = (count ≤ length bytes) × (new ≡ old ++ take count bytes)
AppendsAs (Err error) old new bytes = (count : ℕ) × (count ≤ length bytes) × (new ≡ old ++ take count bytes)
