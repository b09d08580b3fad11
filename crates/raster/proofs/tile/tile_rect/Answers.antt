use Rattle.std.proofs.Common.{◌≡◌, ℕ, ◌-◌, ◌*◌, ◌/◌, ◌%◌, refl, ◌∙◌, arith}
use Rattle.std.specs.Prelude.{min}
use Rattle.raster.specs.declared.rect.Rect.{Rect}
use Rattle.raster.specs.Screen.{tiles_across, tile_rect}
use Rattle.raster.proofs.Tiles.{across_is}
use Rattle.raster.proofs.tile.tile_rect.Goals as goal

abbrev placed : ℕ → ℕ → ℕ → ℕ → Rect
placed x y w h = record { x = x; y = y; w = w; h = h }

tile_is : (w h k across wide high : ℕ) → across ≡ tiles_across w → wide ≡ min (w - k % across * 16) 16 → high ≡ min (h - k / across * 16) 16 → placed (k % across * 16) (k / across * 16) wide high ≡ tile_rect w h k
tile_is w h k across wide high is is_wide is_high =
    let a : wide ≡ min 16 (w - k % across * 16) = omega (arith, is_wide) in
    let b : high ≡ min 16 (h - k / across * 16) = omega (arith, is_high) in
    rw (a, b, is) refl

pub returns : goal.returns
returns c = tile_is c.args.w c.args.h c.args.k c.div_ceil-across.result c.min.result c.min-2.result (c.div_ceil-across.ensures ∙ across_is c.args.w) c.min.ensures c.min-2.ensures
