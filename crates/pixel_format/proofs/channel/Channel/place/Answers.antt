use Rattle.std.proofs.Common.{◌≡◌, ◌+◌, ◌*◌, ◌/◌, ◌^◌, refl, arith}
use Rattle.pixel_format.specs.PixelFormat.{on_channel}
use Rattle.pixel_format.proofs.Tints.{placed_below}
use Rattle.pixel_format.proofs.channel.Channel.place.Goals as goal

pub returns : goal.returns
returns c =
    let below = placed_below c.args.self.now c.args.component (omega arith) c.requires in
    let e : (c.from.result * c.from-2.result + 127) / 255 * 2 ^ c.self.inside.shift ≡ on_channel c.args.self.now c.args.component =
    rw (c.from.ensures, c.from-2.ensures, ← c.self.view_is) refl
    in
    omega (arith, e, below)
