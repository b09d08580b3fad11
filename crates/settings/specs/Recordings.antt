-- Hosts that are recordings.
use Rattle.std.specs.Prelude.{◌≡◌, ◌++◌, ℕ, List, codes}

-- A host is a recording where its text says a path after `file:`.
abbrev pub PlaysFrom : List ℕ → List ℕ → Type 0
PlaysFrom text path = text ≡ codes "file:" ++ path
