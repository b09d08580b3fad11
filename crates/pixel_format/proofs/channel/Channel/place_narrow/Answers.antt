use Rattle.std.proofs.Common.{◌≡◌, ◌+◌, ◌*◌, ◌/◌, ◌^◌, ap, arith}
use Rattle.pixel_format.specs.PixelFormat.{on_channel}
use Rattle.pixel_format.proofs.ScalingLemmas.{scaled_exactly}
use Rattle.pixel_format.proofs.Tints.{placed_below}
use Rattle.pixel_format.proofs.channel.Channel.place_narrow.Goals as goal

pub returns : goal.returns
returns c =
    let x = c.args.component in
    let below = placed_below c.args.self.now x (omega arith) c.requires.fits in
    let s = scaled_exactly x c.args.self.now.max (omega arith) c.requires.narrow in
    let e : (c.from.result * (257 * c.from-2.result) + 32896) / 65536 * 2 ^ c.self.inside.shift ≡ on_channel c.args.self.now x =
    rw (c.from.ensures, c.from-2.ensures, ← c.self.view_is) (rw (← c.self.view_is) at (ap (λ n. n * 2 ^ c.args.self.now.shift) s))
    in
    omega (arith, e, below)
