use Rattle.std.proofs.Common.{◌≡◌, ℕ, ◌*◌, ◌≤◌, length, get_or, ap, arith}
use Rattle.std.proofs.Math.Nat.{mul-le-mul_left}
use Rattle.pixel_format.specs.PixelFormat.{PixelFormat, pixel_bytes, pixel_len}
use Rattle.pixel_format.proofs.Pixels.{pixel_size}
use Rattle.pixel_format.proofs.RowLemmas.{row_goes_on}
use Rattle.pixel_format.proofs.format.Format.put_each.Goals as goal

pub loop-i-preserved : goal.loop-i-preserved
loop-i-preserved c =
    let f : PixelFormat = c.args.self.now in
    let i : ℕ = c.loop-i.i in
    let place : c.bytes-size.result * i ≡ pixel_len f * i = ap (λ n. n * i) c.bytes-size.ensures in
    let upto : pixel_len f * i ≤ pixel_len f * length c.args.values.now = mul-le-mul_left (pixel_len f) (omega (arith, c.loop-i-test.true)) in
    rw c.put_pixel.ensures
    (row_goes_on (pixel_bytes f) (pixel_len f) c.args.values.now c.loop-i.out _ _ i (c.bytes-size.result * i) place (omega (arith, place, upto, c.requires, c.loop-i.auto.out)) (pixel_size f (get_or c.args.values.now i 0)) (omega (arith, c.loop-i-test.true)) c.loop-i.invariant)
