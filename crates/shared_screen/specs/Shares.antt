-- The two shares of the number of changes. The rule has one, and the author, the only end that changes the history, has
-- the other. The number changes only where both come together, so the author always knows it.
use Rattle.std.specs.Prelude.{◌≡◌, ℕ, Bool, true, false, List, [], ◌∷◌, length}
use base.Fml.{Fml, ftrue, fsep}
use base.Share.{quarter, three_quarters}
use Rattle.logbook.specs.Kept.{fact, part}
use Rattle.shared_screen.specs.History.{Change}

-- The number's ghost name.
abbrev pub name_of : List ℕ → ℕ
name_of [] = 0
name_of (n ∷ ns) = n

-- The rule's share.
abbrev pub kept : List ℕ → List Change → Fml
kept names log = part (name_of names) 0 quarter (length log)

-- The author's share, where it isn't in an offer.
abbrev pub holding : List ℕ → Bool → ℕ → Fml
holding names true n = part (name_of names) 0 three_quarters n
holding names false n = ftrue

-- How many changes there were before a step, and how many after it.
abbrev pub IsMove : List Change → List Change → ℕ × ℕ → Type 0
IsMove before after answer = answer ≡ (length before, length after)

-- What comes back from an offer: there were as many changes as were known, and the share is now one of the new number.
abbrev pub turned : List ℕ → List Change → ℕ × ℕ → Fml
turned names known answer = fsep (fact (answer.0 ≡ length known)) (holding names true answer.1)
