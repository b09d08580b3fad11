use Rattle.std.proofs.Common.{◌≡◌, true, false}
use Rattle.pixel_format.specs.PixelFormat.{PixelFormat, IsAccepted}
use Rattle.pixel_format.proofs.Pixels.{row_8, row_16_big, row_16_little, row_32_big, row_32_little}
use Rattle.pixel_format.proofs.format.Format.tint_row_by.Goals as goal

pub returns-in-8-default : goal.returns-in-8-default
returns-in-8-default g c =
    let f : PixelFormat = c.args.self.now in
    let ok : IsAccepted f = rw (← c.self.view_is) c.self.invariant in
    let bits : f.bits_per_pixel ≡ 8 = rw (← c.self.view_is) c.in-8-default.is-0 in
    rw c.tint_row_8.ensures (row_8 f c.args.colours.now ok bits)

pub returns-in-16-true : goal.returns-in-16-true
returns-in-16-true g c =
    let f : PixelFormat = c.args.self.now in
    let bits : f.bits_per_pixel ≡ 16 = rw (← c.self.view_is) c.in-16-true.is-0 in
    let big : f.big_endian ≡ true = rw (← c.self.view_is) c.in-16-true.is-1 in
    rw c.tint_row_16.ensures (row_16_big f c.args.colours.now bits big)

pub returns-in-16-false : goal.returns-in-16-false
returns-in-16-false g c =
    let f : PixelFormat = c.args.self.now in
    let bits : f.bits_per_pixel ≡ 16 = rw (← c.self.view_is) c.in-16-false.is-0 in
    let big : f.big_endian ≡ false = rw (← c.self.view_is) c.in-16-false.is-1 in
    rw c.tint_row_16-in-16-false.ensures (row_16_little f c.args.colours.now bits big)

pub returns-in_default-true : goal.returns-in_default-true
returns-in_default-true g c =
    let f : PixelFormat = c.args.self.now in
    let not8 : f.bits_per_pixel ≡ 8 → ⊥ = rw (← c.self.view_is) c.in_default-true.is-0.0.1 in
    let not16 : f.bits_per_pixel ≡ 16 → ⊥ = rw (← c.self.view_is) c.in_default-true.is-0.1 in
    let big : f.big_endian ≡ true = rw (← c.self.view_is) c.in_default-true.is-1 in
    rw c.tint_row_32.ensures (row_32_big f c.args.colours.now not8 not16 big)

pub returns-in_default-false : goal.returns-in_default-false
returns-in_default-false g c =
    let f : PixelFormat = c.args.self.now in
    let not8 : f.bits_per_pixel ≡ 8 → ⊥ = rw (← c.self.view_is) c.in_default-false.is-0.0.1 in
    let not16 : f.bits_per_pixel ≡ 16 → ⊥ = rw (← c.self.view_is) c.in_default-false.is-0.1 in
    let big : f.big_endian ≡ false = rw (← c.self.view_is) c.in_default-false.is-1 in
    rw c.tint_row_32-in_default-false.ensures (row_32_little f c.args.colours.now not8 not16 big)
