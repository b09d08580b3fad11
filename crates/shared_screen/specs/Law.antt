-- What holds of the history and its word between any two steps, and what a step tells.
use Rattle.std.specs.Prelude.{ℕ, ◌≡◌, true, List, [], ◌∷◌, ◌++◌, length, Some}
use Rattle.logbook.specs.Pages.{Cell, Step, View, Book, Named}
use Rattle.raster.specs.Update.{Update}
use Rattle.shared_screen.specs.History.{Change, IsLegal, IsBacked}

-- The word is the number of changes, which are legal, and the updates up to the tally are published. A book has a
-- second word, which stays 0 and isn't used.
pub record IsKept (published : List Update → Type 0) (cells : List Cell) (log : List Change) : Type 0 where
  pub words : cells ≡ (length log, true) ∷ (0, true) ∷ []
  pub legal : IsLegal log
  pub backed : IsBacked published log

-- The word of a book.
abbrev pub word_of : Book → Named
word_of book = record { tracked = true; key = 0; book = book }

-- All changes so far were seen, and their number was found.
abbrev pub Looks : (List Update → Type 0) → Step Change → View Change (ℕ × ℕ) → ℕ → View Change (ℕ × ℕ) → Type 0
Looks published s v found w = (length w.0 ≡ found) × IsLegal w.0 × IsBacked published w.0

-- The offer ran, and tells the numbers of changes before and after. Where it found as many as expected, the change
-- stands after all that had been seen.
abbrev pub Adds : (List Update → Type 0) → Step Change → View Change (ℕ × ℕ) → ℕ → View Change (ℕ × ℕ) → Type 0
Adds published s v found w =
    (w.1.1 ≡ Some (found, length w.0)) × (IsLegal w.0 × IsBacked published w.0)
    × (found ≡ s.old → w.0 ≡ v.0 ++ s.ask ∷ [])
