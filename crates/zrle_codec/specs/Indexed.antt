-- Values as indices of a palette.
use Rattle.std.specs.Prelude.{◌≡◌, ℕ, ◌<◌, ◌≤◌, List, length, slice_index}

-- So many colours of a palette have room in it, and each of the first values, so many, has an index, under which it
-- stands there.
pub record AreIndexedTo (values palette indices : List ℕ) (count to : ℕ) : Type 0 where
  pub few : count ≤ 16
  pub known : (k : ℕ) → k < to → slice_index indices k < count
  pub value : (k : ℕ) → k < to → slice_index palette (slice_index indices k) ≡ slice_index values k

-- Each value has an index.
abbrev pub AreIndexed : List ℕ → List ℕ → List ℕ → ℕ → Type 0
AreIndexed values palette indices count = AreIndexedTo values palette indices count (length values)
