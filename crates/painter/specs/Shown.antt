-- The board that is shown, which may be shared.
use Rattle.std.specs.Prelude.{◌≡◌, ℕ, [], Option, Some, None}
use Rattle.std.specs.Arc.{arc_value}
use Rattle.std.specs.declared.sync.Arc.{Arc}
use Rattle.painter.specs.Board.{Posted, IsSameScreen}

-- The size of a screen of which there is room for a copy.
pub record RoomSize : Type 0 where
  pub width : ℕ
  pub height : ℕ

-- What stands for the board where there is neither a shared one nor a copy, which IsShown rules out.
abbrev nothing : Posted
nothing = record { width = 0; height = 0; number = 0; size = None; colours = []; grid = record { width = 0; height = 0; stamps = [] }; bells = 0; text = None; log = record { width = 0; height = 0; number = 0; notes = [] } }

-- The board that is shown: the shared one, or else the copy.
abbrev pub board_of : {A : Type 0} → Option (Arc Posted A) → Option Posted → Posted
board_of {A} (Some board) copy = arc_value board
board_of {A} None (Some copy) = copy
board_of {A} None None = nothing

-- There is a shared board, with a copy of its screen size or room for one; or there is a copy alone.
abbrev pub IsShown : {A : Type 0} → Option (Arc Posted A) → Option Posted → Option RoomSize → Type 0
IsShown {A} (Some board) (Some copy) room = IsSameScreen copy (arc_value board)
IsShown {A} (Some board) None (Some room) = (room.width ≡ (arc_value board).width) × (room.height ≡ (arc_value board).height)
IsShown {A} (Some board) None None = ⊥
IsShown {A} None (Some copy) room = Unit {0}
IsShown {A} None None room = ⊥
