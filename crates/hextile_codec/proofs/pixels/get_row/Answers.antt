use Rattle.std.proofs.Common.{◌≡◌, ◌∙◌, ap, take, drop, length, ◌-◌, ◌+◌, ◌*◌, ◌<◌, ℕ, List, arith}
use Rattle.std.proofs.lemmas.List.{length-set}
use Rattle.pixel_format.specs.PixelFormat.{pixel_len, pixel_of}
use Rattle.hextile_codec.specs.Ahead.{pixels_in}
use Rattle.hextile_codec.proofs.PixelsIn.{row_more, row_done}
use Rattle.hextile_codec.proofs.pixels.get_row.Goals as goal

pub loop-value-preserved : goal.loop-value-preserved
loop-value-preserved c =
    let format = c.args.format.now in
    let values : List ℕ = c.loop-value.values in
    let i : ℕ = c.loop-value.value-index in
    let rest : List ℕ = c.loop-value.rest.now in
    let p : ℕ = pixel_len format in
    let lt : i < length values = omega (arith, c.loop-value-test.true, c.loop-value.auto.values) in
    let size = c.bytes-size.ensures in
    let value : c.get_pixel.result ≡ pixel_of format (take p rest) = c.get_pixel.ensures ∙ ap (pixel_of format) (c.split_at.ensures.front ∙ ap (λ n. take n rest) size) in
    let behind : c.split_at.result.1.now ≡ drop p rest = c.split_at.ensures.back ∙ ap (λ n. drop n rest) size in
    let n : ℕ = length values - (i + 1) in
    let count : (length values - i) * p ≡ n * p + p = let e : length values - i ≡ n + 1 = omega arith in rw e (omega arith) in
    record {
      written = rw behind (row_more format values rest (pixels_in format (length c.args.values.now) c.args.bytes.now) i c.get_pixel.result lt value c.loop-value.invariant.written);
      left = rw (length-set values i c.get_pixel.result) (omega (arith, c.split_at.ensures.back_len, size, c.loop-value.invariant.left, count));
    }

pub returns : goal.returns
returns c =
    row_done c.args.format.now c.loop-value.values c.loop-value.rest.now (pixels_in c.args.format.now (length c.args.values.now) c.args.bytes.now) c.loop-value.value-index (omega (arith, c.loop-value-test.false, c.loop-value.auto.values)) c.loop-value.invariant.written
