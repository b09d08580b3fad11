use Rattle.std.proofs.Common.{◌≡◌, ◌≤◌, ◌+◌, ◌*◌, ◌++◌, ◌∷◌, ◌∙◌, ℕ, take, ap, arith}
use Rattle.std.proofs.Math.Nat.{mul-le-mul_left, mul-le-mul_right}
use Rattle.pixel_format.specs.PixelFormat.{pixel_len}
use Rattle.raster.specs.declared.rect.Rect.{Rect}
use Rattle.raster.specs.Encoding.{raw_bytes}
use Rattle.raster.proofs.AreaRows.{tile_row_len}
use Rattle.hextile_codec.proofs.RawRows.{row_is_put, all_rows}
use Rattle.hextile_codec.proofs.put.put_raw.Goals as goal

pub loop-y-preserved : goal.loop-y-preserved
loop-y-preserved c =
    let tile : Rect = c.args.tile.now in
    let p : ℕ = pixel_len c.args.format.now in
    let y : ℕ = c.loop-y.y in
    let size = tile_row_len c.args.values.now c.args.w tile y c.requires.across c.requires.down c.loop-y-test.true in
    let next : p * ((y + 1) * tile.w) ≡ p * (y * tile.w) + p * tile.w = omega arith in
    record {
      at = c.put_row-at.ensures.end ∙ (ap (λ n. c.loop-y.at + p * n) size ∙ omega (arith, next, c.loop-y.invariant.at));
      bytes = row_is_put c.args.format.now c.args.values.now c.args.w tile y c.loop-y.at c.put_row-at.result (take c.args.used c.args.out.now) c.loop-y.out c.put_row-at.new.out c.requires.across c.requires.down c.loop-y-test.true c.loop-y.invariant.bytes c.put_row-at.ensures.bytes;
    }

pub returns : goal.returns
returns c =
    let tile : Rect = c.args.tile.now in
    let over : c.loop-y.y ≡ tile.h = omega arith in
    let area : c.loop-y.y * tile.w ≡ tile.w * tile.h = ap (λ n. n * tile.w) over ∙ omega arith in
    let end : c.args.used + 1 + pixel_len c.args.format.now * (tile.w * tile.h) ≡ c.loop-y.at = omega (arith, ap (λ n. pixel_len c.args.format.now * n) area, c.loop-y.invariant.at) in
    ap (λ n. take n c.loop-y.out) end ∙ (c.loop-y.invariant.bytes ∙ ap (λ t. take c.args.used c.args.out.now ++ 1 ∷ raw_bytes c.args.format.now t) (all_rows c.args.values.now c.args.w tile c.loop-y.y over))

pub put_row-at-requires : goal.put_row-at-requires
put_row-at-requires c =
    let tile : Rect = c.args.tile.now in
    let p : ℕ = pixel_len c.args.format.now in
    let size = tile_row_len c.args.values.now c.args.w tile c.loop-y.y c.requires.across c.requires.down c.loop-y-test.true in
    let rows : (c.loop-y.y + 1) * tile.w ≤ tile.h * tile.w = mul-le-mul_right {m = c.loop-y.y + 1} {n = tile.h} tile.w (omega arith) in
    let upto : p * ((c.loop-y.y + 1) * tile.w) ≤ p * (tile.w * tile.h) = mul-le-mul_left p (omega (arith, rows)) in
    omega (arith, c.loop-y.invariant.at, ap (λ n. p * n) size, upto, c.requires.room)
