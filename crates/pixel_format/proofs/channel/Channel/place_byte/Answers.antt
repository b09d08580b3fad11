use Rattle.std.proofs.Common.{◌≡◌, ◌*◌, ◌^◌, refl, arith}
use Rattle.pixel_format.specs.PixelFormat.{on_channel}
use Rattle.pixel_format.proofs.ScalingLemmas.{scaled_to_byte}
use Rattle.pixel_format.proofs.Tints.{placed_below}
use Rattle.pixel_format.proofs.channel.Channel.place_byte.Goals as goal

pub returns : goal.returns
returns c =
    let x = c.args.component in
    let below = placed_below c.args.self.now x (omega arith) c.requires.fits in
    let s = scaled_to_byte x (omega arith) in
    let e : c.from.result * 2 ^ c.self.inside.shift ≡ on_channel c.args.self.now x =
    rw (c.from.ensures, c.requires.byte, s, ← c.self.view_is) refl
    in
    omega (arith, e, below)
