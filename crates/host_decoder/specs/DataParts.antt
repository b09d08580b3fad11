-- What is kept of a Raw rectangle's data while it comes.
use Rattle.std.specs.Prelude.{ℕ, List}

-- The width of the rectangle, how many pixels it has, how many of them have come, and the first bytes of the next one.
pub record RawProgress : Type 0 where
  pub width : ℕ
  pub count : ℕ
  pub done : ℕ
  pub begun : List ℕ
