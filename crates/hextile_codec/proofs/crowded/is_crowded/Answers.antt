use Rattle.std.proofs.Common.{◌<◌, ℕ, arith}
use Rattle.std.proofs.lemmas.Bool.{ltb-true}
use Rattle.raster.specs.Screen.{Canvas, value_at, part_of}
use Rattle.hextile_codec.proofs.Crowds.{crowded_joined, crowded_rows}
use Rattle.hextile_codec.proofs.crowded.is_crowded.Goals as goal

pub returns-clause-joined : goal.returns-clause-joined
returns-clause-joined c = λ crowded.
    let canvas : Canvas = part_of c.args.tile.now (value_at c.args.w c.args.values.now) in
    let corners : ℕ = c.tile_corners-corners.result in
    let most : ℕ = c.most_shown.result in
    let less : most < c.min.result = ltb-true most c.min.result crowded in
    crowded_joined canvas c.args.tile.now.h corners most c.args.enough c.tile_corners-corners.ensures.begun c.most_shown.ensures (omega (arith, less, c.min.ensures)) (omega (arith, less, c.min.ensures, c.if-corners-enough.false))

pub returns-clause-rows : goal.returns-clause-rows
returns-clause-rows c = λ crowded.
    let canvas : Canvas = part_of c.args.tile.now (value_at c.args.w c.args.values.now) in
    let corners : ℕ = c.tile_corners-corners.result in
    let most : ℕ = c.most_shown.result in
    let less : most < c.min.result = ltb-true most c.min.result crowded in
    crowded_rows canvas c.args.tile.now.h corners most c.args.enough c.tile_corners-corners.ensures.begun c.most_shown.ensures (omega (arith, less, c.min.ensures)) (omega (arith, less, c.min.ensures, c.if-corners-enough.false))
