use Rattle.std.proofs.Common.{◌≡◌, false, ◌∙◌}
use Rattle.pixel_format.specs.PixelFormat.{PixelFormat}
use Rattle.pixel_format.proofs.Pixels.{values_16_little, values_32_little}
use Rattle.pixel_format.proofs.format.Format.put_values.Goals as goal

pub returns-in-32-false : goal.returns-in-32-false
returns-in-32-false c =
    let f : PixelFormat = c.args.self.now in
    let bits : f.bits_per_pixel ≡ 32 = rw (← c.self.view_is) c.in-32-false.is-0 in
    let big : f.big_endian ≡ false = rw (← c.self.view_is) c.in-32-false.is-1 in
    c.put_words.ensures ∙ values_32_little f c.args.values.now bits big

pub returns-in-16-false : goal.returns-in-16-false
returns-in-16-false c =
    let f : PixelFormat = c.args.self.now in
    let bits : f.bits_per_pixel ≡ 16 = rw (← c.self.view_is) c.in-16-false.is-0 in
    let big : f.big_endian ≡ false = rw (← c.self.view_is) c.in-16-false.is-1 in
    c.put_halves.ensures ∙ values_16_little f c.args.values.now bits big
