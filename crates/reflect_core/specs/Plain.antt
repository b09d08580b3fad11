-- What a source for one thread holds.
use Rattle.std.specs.Prelude.{◌≡◌, ℕ, ◌^◌, ◌<◌, ◌≤◌, List, length, map, All, ◌⊎◌}
use Rattle.fault.specs.declared.kinds.Fault.{Fault}
use Rattle.fault.specs.declared.kinds.Fault.TheVariants.{Memory, NumbersOut}
use Rattle.raster.specs.Size.{IsScreenSize}
use Rattle.raster.specs.Update.{Update}
use Rattle.painter.specs.Board.{BoardStands, Posted}
use Rattle.painter.specs.Patch.{SizedUpdate}

-- The size of its screen, the updates that were put, and the tally.
pub record Plain : Type 0 where
  pub width : ℕ
  pub height : ℕ
  pub updates : List Update
  pub tally : ℕ

-- The updates of patches, in order.
abbrev pub updates_of : List SizedUpdate → List Update
updates_of patches = map (λ patch. patch.update) patches

-- Patches for a screen of w by h.
abbrev pub AreOfSize : ℕ → ℕ → List SizedUpdate → Type 0
AreOfSize w h patches = All (λ patch. (patch.width ≡ w) × (patch.height ≡ h)) patches

-- What the fields of such a source hold: patches of its size, the board that they make, and a tally that is at most
-- their number.
pub record IsPlain (w h : ℕ) (patches : List SizedUpdate) (tally : ℕ) (board : Posted) : Type 0 where
  pub size : IsScreenSize w h
  pub fits : AreOfSize w h patches
  pub tally_within : tally ≤ length patches
  pub few : length patches ≤ 2 ^ 62
  pub board_size : (board.width ≡ w) × (board.height ≡ h)
  pub shows : BoardStands board (updates_of patches)

-- Why an update isn't taken as the next after this many: memory is refused, or there are no more numbers.
abbrev pub IsPutRefusal : ℕ → Fault → Type 0
IsPutRefusal count fault = ((count < 2 ^ 62) × (fault ≡ Memory)) ⊎ ((count ≡ 2 ^ 62) × (fault ≡ NumbersOut))
