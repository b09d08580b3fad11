-- What is kept of the values of a canvas. Codecs are proved once for canvases that mask and for those that don't.
use Rattle.std.proofs.Common.{◌≡◌, ℕ, Bool, true, false, cond, refl}
use Rattle.raster.specs.declared.rect.Rect.{Rect}
use Rattle.raster.specs.Screen.{Canvas, holds, fill, kept}

chosen : (b : Bool) (keeps : ℕ → ℕ) (u v : ℕ) → cond b (keeps u) (keeps v) ≡ keeps (cond b u v)
chosen true keeps u v = refl
chosen false keeps u v = refl

-- It is filled with what is kept of a value.
pub kept_fill : (keeps : ℕ → ℕ) (area : Rect) (v : ℕ) (canvas : Canvas) (x y : ℕ) → fill area (keeps v) (kept keeps canvas) x y ≡ kept keeps (fill area v canvas) x y
kept_fill keeps area v canvas x y = chosen (holds area x y) keeps v (canvas x y)
