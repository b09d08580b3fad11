-- What a link keeps of the bytes that it was given.
use Rattle.std.specs.Prelude.{ℕ, List}

-- The bytes that are kept, in order, and how many more there is room for.
pub record KeptBytes : Type 0 where
  pub bytes : List ℕ
  pub room : ℕ

-- The most bytes that are kept.
abbrev pub most_kept : ℕ
most_kept = 65_536
