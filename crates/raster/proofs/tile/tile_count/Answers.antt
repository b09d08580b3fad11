use Rattle.std.proofs.Common.{◌≤◌, arith}
use Rattle.std.proofs.Math.Nat.{mul-le-mul}
use Rattle.raster.proofs.tile.tile_count.Goals as goal

pub returns-clause-few : goal.returns-clause-few
returns-clause-few c =
    let across : c.div_ceil.result ≤ 4096 = omega (arith, c.div_ceil.ensures, c.requires.wide) in
    let down : c.div_ceil-2.result ≤ 4096 = omega (arith, c.div_ceil-2.ensures, c.requires.high) in
    mul-le-mul {n₁ = c.div_ceil.result} {m₁ = c.div_ceil-2.result} {n₂ = 4096} {m₂ = 4096} across down
