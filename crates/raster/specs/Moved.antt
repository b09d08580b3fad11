-- Values that are moved inside one list.
use Rattle.std.specs.Prelude.{◌≡◌, ℕ, ◌+◌, ◌<◌, ◌≤◌, List, slice_index}

-- This many values, from index from on, stand from index to on as they stood before, and all others stay.
pub record IsMoved (old new : List ℕ) (from to count : ℕ) : Type 0 where
  pub inside : (k : ℕ) → k < count → slice_index new (to + k) ≡ slice_index old (from + k)
  pub below : (k : ℕ) → k < to → slice_index new k ≡ slice_index old k
  pub past : (k : ℕ) → to + count ≤ k → slice_index new k ≡ slice_index old k
