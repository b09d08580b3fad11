use Rattle.std.proofs.Common.{◌≡◌, refl}
use Rattle.pixel_format.specs.PixelFormat.{on_channel, red_of, green_of, blue_of}
use Rattle.pixel_format.proofs.Tints.{channels_fit, two_fit, three_fit, three_below}
use Rattle.pixel_format.proofs.scaling.ShiftsScaling.pixel.Goals as goal

pub place_byte-requires-clause-fits : goal.place_byte-requires-clause-fits
place_byte-requires-clause-fits c =
    let fit = channels_fit c.args.format.now (rw (← c.format.view_is) c.format.invariant) in
    rw (← c.format.view_is) at fit.0

pub place_byte-requires-2-clause-fits : goal.place_byte-requires-2-clause-fits
place_byte-requires-2-clause-fits c =
    let fit = channels_fit c.args.format.now (rw (← c.format.view_is) c.format.invariant) in
    rw (← c.format.view_is) at fit.1

pub place_byte-requires-3-clause-fits : goal.place_byte-requires-3-clause-fits
place_byte-requires-3-clause-fits c =
    let fit = channels_fit c.args.format.now (rw (← c.format.view_is) c.format.invariant) in
    rw (← c.format.view_is) at fit.2

pub overflow_add-result : goal.overflow_add-result
overflow_add-result c =
    let red : c.place_byte.result ≡ on_channel c.args.format.now.red (red_of c.args.colour) = rw (c.place_byte.ensures, c.components-red.ensures.red, ← c.format.view_is) refl in
    let green : c.place_byte-2.result ≡ on_channel c.args.format.now.green (green_of c.args.colour) = rw (c.place_byte-2.ensures, c.components-red.ensures.green, ← c.format.view_is) refl in
    two_fit c.args.format.now c.args.colour c.place_byte.result c.place_byte-2.result (rw (← c.format.view_is) c.format.invariant) red green

pub overflow_add-result-2 : goal.overflow_add-result-2
overflow_add-result-2 c =
    let red : c.place_byte.result ≡ on_channel c.args.format.now.red (red_of c.args.colour) = rw (c.place_byte.ensures, c.components-red.ensures.red, ← c.format.view_is) refl in
    let green : c.place_byte-2.result ≡ on_channel c.args.format.now.green (green_of c.args.colour) = rw (c.place_byte-2.ensures, c.components-red.ensures.green, ← c.format.view_is) refl in
    let blue : c.place_byte-3.result ≡ on_channel c.args.format.now.blue (blue_of c.args.colour) = rw (c.place_byte-3.ensures, c.components-red.ensures.blue, ← c.format.view_is) refl in
    three_fit c.args.format.now c.args.colour c.place_byte.result c.place_byte-2.result c.place_byte-3.result (rw (← c.format.view_is) c.format.invariant) red green blue

pub returns-clause-bound : goal.returns-clause-bound
returns-clause-bound c =
    let red : c.place_byte.result ≡ on_channel c.args.format.now.red (red_of c.args.colour) = rw (c.place_byte.ensures, c.components-red.ensures.red, ← c.format.view_is) refl in
    let green : c.place_byte-2.result ≡ on_channel c.args.format.now.green (green_of c.args.colour) = rw (c.place_byte-2.ensures, c.components-red.ensures.green, ← c.format.view_is) refl in
    let blue : c.place_byte-3.result ≡ on_channel c.args.format.now.blue (blue_of c.args.colour) = rw (c.place_byte-3.ensures, c.components-red.ensures.blue, ← c.format.view_is) refl in
    three_below c.args.format.now c.args.colour c.place_byte.result c.place_byte-2.result c.place_byte-3.result (rw (← c.format.view_is) c.format.invariant) red green blue
