-- The colours that a cut shows.
use Rattle.std.specs.Prelude.{◌≤◌, ℕ, Bool, List, length, Option, Some, None, vec_capacity}
use Rattle.std.specs.Arc.{arc_value}
use Rattle.std.specs.declared.sync.Arc.{Arc}
use Rattle.std.specs.declared.vec.Vec.{Vec}
use Rattle.painter.specs.Board.{Posted}

-- Colours, row after row, and whether they are those of a board that is shared.
pub record Colours : Type 0 where
  pub items : List ℕ
  pub is_shared : Bool

-- The colours of a shared board, or else the picture's own.
abbrev pub colours_of : {A : Type 0} → Option (Arc Posted A) → List ℕ → List ℕ
colours_of {A} (Some board) own = (arc_value board).colours
colours_of {A} None own = own

-- There is room for as many colours: where its own stand, and in the room, if there is some, that is to take that one's
-- place.
abbrev pub IsPicture : {A B : Type 0} → Option (Arc Posted A) → Vec ℕ B → Option (Vec ℕ B) → Type 0
IsPicture {A} {B} shared own None = length (colours_of shared own.items) ≤ vec_capacity own
IsPicture {A} {B} shared own (Some room) = (length (colours_of shared own.items) ≤ vec_capacity own) × (length (colours_of shared own.items) ≤ vec_capacity room)
