use Rattle.std.proofs.Common.{◌≡◌, ◌*◌, ◌/◌, ◌%◌, ◌<◌, ap, arith}
use Rattle.zrle_codec.specs.Areas.{zrle_tiles_across}
use Rattle.zrle_codec.proofs.TilesOfAreas.{lies_at}
use Rattle.zrle_codec.proofs.area.zrle_tile_rect.Goals as goal

pub returns-clause-within : goal.returns-clause-within
returns-clause-within c =
    let lies = lies_at c.args.w c.args.h c.args.t c.requires.one in
    let is : c.div_ceil-across.result ≡ zrle_tiles_across c.args.w = omega (arith, c.div_ceil-across.ensures) in
    let column : c.args.t % c.div_ceil-across.result * 64 < c.args.w = omega (arith, ap (λ a. c.args.t % a * 64) is, lies.column) in
    let row : c.args.t / c.div_ceil-across.result * 64 < c.args.h = omega (arith, ap (λ a. c.args.t / a * 64) is, lies.row) in
    record { across = omega (arith, column, c.min.ensures); down = omega (arith, row, c.min-2.ensures) }

pub returns-clause-high : goal.returns-clause-high
returns-clause-high c =
    let lies = lies_at c.args.w c.args.h c.args.t c.requires.one in
    let is : c.div_ceil-across.result ≡ zrle_tiles_across c.args.w = omega (arith, c.div_ceil-across.ensures) in
    let row : c.args.t / c.div_ceil-across.result * 64 < c.args.h = omega (arith, ap (λ a. c.args.t / a * 64) is, lies.row) in (
      omega (arith, row, c.min-2.ensures),
      omega (arith, c.min-2.ensures),
    )
