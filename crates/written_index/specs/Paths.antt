-- Where the index of a recording is (own).
use Rattle.std.specs.Prelude.{◌≡◌, ◌⊎◌, ◌++◌, ℕ, List, codes}

-- The path ends as that of a recording does, behind this stem.
abbrev pub EndsBehind : (stem path : List ℕ) → Type 0
EndsBehind stem path = path ≡ stem ++ codes ".fbs"

-- The path of the index has another end behind the same stem. Where that of the recording has no such end, that of the
-- index has its own behind all of it.
abbrev pub IsIndexPath : (recording index : List ℕ) → Type 0
IsIndexPath recording index =
    ((stem : List ℕ) × EndsBehind stem recording × (index ≡ stem ++ codes ".fbi"))
    ⊎ (((stem : List ℕ) → ¬ EndsBehind stem recording) × (index ≡ recording ++ codes ".fbi"))
