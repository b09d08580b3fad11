-- The copies that an update begins with (RFC 6143, 7.7.2). A patch keeps them, and brings tiles for all other paints.
use Rattle.std.specs.Prelude.{ℕ, zero, suc, ◌≤◌, Bool, ◌&&◌, ◌==◌, nat_lt, List, [], ◌∷◌, length, drop, All}
use Rattle.raster.specs.Painted.{Fits}
use Rattle.raster.specs.Update.{Paint, Put, Copy, Resized}
use Rattle.copy_log.specs.declared.copy_rect.CopyRect.{CopyRect}
use Rattle.copy_log.specs.declared.note.TheConstants.{MOST_COPIES}
use Rattle.copy_log.specs.Notes.{paint_of}

-- The longest beginning of copies of these paints, n at most.
abbrev pub first_copies : ℕ → List Paint → List Paint
first_copies zero ps = []
first_copies (suc n) [] = []
first_copies (suc n) (Put r colours ∷ ps) = []
first_copies (suc n) (Copy r sx sy ∷ ps) = Copy r sx sy ∷ first_copies n ps
first_copies (suc n) (Resized size ∷ ps) = []

-- The copies that an update's paints begin with: as many as there are, and at most as many as a patch keeps.
abbrev pub leading_copies : List Paint → List Paint
leading_copies ps = first_copies MOST_COPIES ps

-- The paints behind those.
abbrev pub other_paints : List Paint → List Paint
other_paints ps = drop (length (leading_copies ps)) ps

-- One copy more behind these paints would be one of those: there is no other paint, and fewer copies than a patch
-- keeps.
abbrev pub can_lead : List Paint → Bool
can_lead ps = (length (other_paints ps) == 0) && nat_lt (length (leading_copies ps)) MOST_COPIES

-- These are copies for a patch of a screen of w by h: each lies on the screen, and so does its source.
pub record AreCopies (w h : ℕ) (copies : List CopyRect) : Type 0 where
  pub fit : All (λ c. Fits w h (paint_of c)) copies
  pub few : length copies ≤ MOST_COPIES
