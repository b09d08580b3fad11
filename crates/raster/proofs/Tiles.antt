-- How many tiles there are. `tile_rect` says where each of them lies.
use Rattle.std.proofs.Common.{◌≡◌, ℕ, arith}
use Rattle.std.specs.Int.{div_ceil}
use Rattle.raster.specs.Screen.{tiles_across}

pub across_is : (n : ℕ) → div_ceil n 16 ≡ tiles_across n
across_is n = omega arith
