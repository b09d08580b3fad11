-- The history of a shared screen: a list of changes, and what they leave.
use Rattle.std.specs.Prelude.{◌≡◌, ℕ, suc, List, [], ◌∷◌, ◌<◌, ◌≤◌, take}
use Rattle.raster.specs.Update.{Update}
use Rattle.reflect_core.specs.Sequential.{Step}
use Rattle.reflect_core.specs.Sequential as step

-- An update is put, or the tally is raised to a number of updates (own).
pub data Change : Type 0 where
  Put : Update → Change
  Raise : ℕ → Change

-- The updates of a history, in order (own).
abbrev pub puts_of : List Change → List Update
puts_of [] = []
puts_of (Put u ∷ cs) = u ∷ puts_of cs
puts_of (Raise m ∷ cs) = puts_of cs

-- The tally after these changes, where it was t before them (own).
abbrev pub tally_from : ℕ → List Change → ℕ
tally_from t [] = t
tally_from t (Put u ∷ cs) = tally_from t cs
tally_from t (Raise m ∷ cs) = tally_from m cs

-- The tally after a history (own).
abbrev pub tally_of : List Change → ℕ
tally_of cs = tally_from 0 cs

-- Puts and raises take turns, and each raise tells the number of updates; before them there were n updates, and the
-- tally was t (own).
abbrev pub TakeTurns : ℕ → ℕ → List Change → Type 0
TakeTurns n t [] = Unit {0}
TakeTurns n t (Put u ∷ cs) = (t ≡ n) × TakeTurns (suc n) t cs
TakeTurns n t (Raise m ∷ cs) = (n ≡ suc t) × (m ≡ n) × TakeTurns n m cs

-- Puts and raises take turns from the beginning on (own).
abbrev pub IsLegal : List Change → Type 0
IsLegal cs = TakeTurns 0 0 cs

-- The first n of these updates are published, for each n from 1 to t (own).
pub record ArePublished (published : List Update → Type 0) (t : ℕ) (us : List Update) : Type 0 where
  pub first : (n : ℕ) → 0 < n → n ≤ t → published (take n us)

-- The updates of a history up to its tally are published (own).
abbrev pub IsBacked : (List Update → Type 0) → List Change → Type 0
IsBacked published cs = ArePublished published (tally_of cs) (puts_of cs)

-- A change as a step of the sequential screen (own).
abbrev pub step_of : Change → Step
step_of (Put u) = step.Put u
step_of (Raise m) = step.Raise m
