-- What a copy of the screen is, and how one update turns it into the next copy.
use Rattle.std.specs.Prelude.{◌≡◌, ℕ, suc, ◌^◌, ◌≤◌, ◌==◌, cond, List, [], ◌∷◌, ◌++◌, length}
use Rattle.painter.specs.Board.{Posted, BoardStands}
use Rattle.raster.specs.Update.{Update}
use Rattle.shared_screen.specs.History.{Change, puts_of}

-- On a screen of w by h the board is that of the updates of a history.
pub record IsPublished (w h : ℕ) (board : Posted) (log : List Change) : Type 0 where
  pub size : (board.width ≡ w) × (board.height ≡ h)
  pub shows : BoardStands board (puts_of log)
  pub few : length (puts_of log) ≤ 2 ^ 62

-- On a screen of w by h the board is that of the updates of a history and of this one more.
pub record IsNext (w h : ℕ) (board : Posted) (log : List Change) (u : Update) : Type 0 where
  pub size : (board.width ≡ w) × (board.height ≡ h)
  pub shows : BoardStands board (puts_of log ++ u ∷ [])

-- A copy that stands at a history follows to a history that has one update more, and stays where it is at any other.
abbrev pub follows : List Change → List Change → List Change
follows log next = cond (suc (length (puts_of log)) == length (puts_of next)) next log
