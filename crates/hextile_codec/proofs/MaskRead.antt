-- A mask is read. `draw_mask` finds the faults of missing colours there.
use Rattle.std.proofs.Common.{◌≡◌, ℕ, suc, [], ◌∷◌, refl, ap, arith}
use Rattle.pixel_format.specs.PixelFormat.{PixelFormat}
use Rattle.byte_reading.specs.Reading.{step}
use Rattle.byte_reading.proofs.ReadingLaws.{taken-nil}
use Rattle.raster.specs.declared.rect.Rect.{Rect}
use Rattle.raster.specs.Screen.{Canvas}
use Rattle.raster.specs.Encoding.{Carried, tile}
use Rattle.hextile_codec.specs.declared.stage.Stage.{Stage}
use Rattle.hextile_codec.specs.declared.stage.Stage.TheVariants.{Mask, RawPixels, Head, Subrects, Failed}
use Rattle.hextile_codec.specs.Ahead.{Part, blank, Led, IsDrawn, IsBehindMask, IsLater, tile_rest}

behind_mask : (keep : ℕ → ℕ) → (area : Rect) (next : Stage) (canvas : Canvas) → IsBehindMask next → IsDrawn keep area next canvas blank
behind_mask keep area Mask canvas e = absurd e
behind_mask keep area (RawPixels count) canvas e = (omega (arith, e), λ x y lx ly lt. absurd (omega (arith, e, lt)))
behind_mask keep area (Head mask) canvas e = tt
behind_mask keep area (Subrects coloured left) canvas e = absurd e
behind_mask keep area (Failed flaw) canvas e = tt

pub mask_leads : (keep : ℕ → ℕ) → (format : PixelFormat) (area : Rect) (carried : Carried) (mask : ℕ) (next : Stage) (canvas : Canvas) (part : Part) → IsBehindMask next
    → step (tile format carried area.w area.h) mask ≡ tile_rest format area.w area.h carried next blank
    → Led keep format area carried carried Mask next (mask ∷ []) canvas part
mask_leads keep format area carried mask next canvas part behind e =
    record {
      grown = blank;
      goes = record { all = ap suc (taken-nil (step (tile format carried area.w area.h) mask)); leads = e };
      shows = behind_mask keep area next canvas behind;
    }

pub later_mask : (format : PixelFormat) (area : Rect) (next : Stage) → IsBehindMask next → ((mask : ℕ) → next ≡ Head mask → ⊥) → IsLater format area next
later_mask format area Mask behind other = tt
later_mask format area (RawPixels count) behind other = omega (arith, behind)
later_mask format area (Head mask) behind other = absurd (other mask refl)
later_mask format area (Subrects coloured left) behind other = tt
later_mask format area (Failed flaw) behind other = tt
