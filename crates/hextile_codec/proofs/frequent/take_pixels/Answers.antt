use Rattle.std.proofs.Common.{◌≡◌, ◌≤◌, ◌+◌, ◌*◌, ◌∙◌, ◌++◌, ℕ, length, sym, ap, arith}
use Rattle.std.specs.Prelude.{Result, Ok, Err}
use Rattle.std.specs.Result.{IsOk, OnOk}
use Rattle.std.proofs.lemmas.List.{length-take}
use Rattle.std.proofs.Math.Nat.{mul-le-mul}
use Rattle.raster.specs.declared.rect.Rect.{Rect}
use Rattle.raster.specs.Screen.{Canvas, value_at, part_of, values_of}
use Rattle.hextile_codec.proofs.TilePixels.{row_more, all_rows}
use Rattle.hextile_codec.proofs.frequent.take_pixels.Goals as goal

-- What fits is added.
added : {E P : Type 0} (answer : Result (Unit {0}) E) → IsOk answer → OnOk answer P → P
added (Ok x) fits p = p
added (Err e) fits p = absurd cc

pub loop-y-preserved : goal.loop-y-preserved
loop-y-preserved c =
    let tile : Rect = c.args.tile.now in
    let canvas : Canvas = part_of tile (value_at c.args.w c.args.values.now) in
    let y : ℕ = c.loop-y.y in
    let few : length c.loop-y.pixels.items ≤ y * tile.w = omega (arith, ap length c.loop-y.invariant, length-take (y * tile.w) (values_of tile.w tile.h canvas)) in
    let upto : (y + 1) * tile.w ≤ 16 * 16 = mul-le-mul {n₁ = y + 1} {m₁ = tile.w} {n₂ = 16} {m₂ = 16} (omega (arith, c.loop-y-test.true, c.requires.h_most)) c.requires.w_most in
    let next : (y + 1) * tile.w ≡ y * tile.w + tile.w = omega arith in
    let more = added c.try_extend_from_slice.result (c.try_extend_from_slice.ensures.variant.1 (omega (arith, few, upto, next, c.row_of.ensures.len))) c.try_extend_from_slice.ensures.ok in
    more ∙ (ap (λ t. t ++ c.row_of.result.now) c.loop-y.invariant ∙ sym (row_more canvas tile.w tile.h y c.row_of.result.now c.row_of.ensures.len c.row_of.ensures.values c.loop-y-test.true))

pub returns : goal.returns
returns c =
    let tile : Rect = c.args.tile.now in
    c.loop-y.invariant ∙ all_rows (part_of tile (value_at c.args.w c.args.values.now)) tile.w tile.h c.loop-y.y (omega (arith, c.loop-y-test.false))
