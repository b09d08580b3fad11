-- How many boards are kept for later puts.
use Rattle.std.specs.Prelude.{ℕ}

-- So many boards are kept, those that readers have and those that are free, of the most that there may be (own).
pub record Keeping : Type 0 where
  pub kept : ℕ
  pub most : ℕ
