use Rattle.std.proofs.Common.{◌≡◌, [], ap, map, sym, subst, ◌∙◌, arith}
use Rattle.std.proofs.lemmas.List.{drop_all}
use Rattle.pixel_format.specs.PixelFormat.{host_format}
use Rattle.byte_reading.specs.Reading.{Reading, after}
use Rattle.rfb_wire.specs.ServerMessage.{ServerMessage, data_of}
use Rattle.host_decoder.specs.Updates.{in_colours}
use Rattle.host_decoder.specs.Decoder.{GoesOn, with_others}
use Rattle.host_decoder.proofs.RectangleData.{size_goes_on}
use Rattle.host_decoder.proofs.update_data.begin_data.Goals as goal

pub returns-in-Ok-clause-goes_on : goal.returns-in-Ok-clause-goes_on
returns-in-Ok-clause-goes_on c start sofar holds =
    let stands = rw (c.size-width.ensures.0, c.size-width.ensures.1) at (c.in-Ok.ensures.stands start (map in_colours sofar) c.args.painter.now holds) in
    let u = c.read_data-next.ensures.uses start sofar _ stands in
    let same : with_others c.args.painter.now.width c.args.painter.now.height sofar c.args.left (data_of host_format c.args.painter.now.width c.args.painter.now.height c.args.area c.args.encoding) ≡ u.next =
    u.behind_.says ∙ ap (after u.next) (drop_all c.read_data-next.result.1 [] (omega arith)) in
    subst (λ (q : Reading ServerMessage). GoesOn c.args.painter.now c.read_data-next.new.painter c.unwrap_or.result start q) (sym same) (rw c.unwrap_or.ensures u.goes_on)

-- A new size is a paint of its own.
pub returns-then-encoding-eq-DESKTOP_SIZE-clause-goes_on : goal.returns-then-encoding-eq-DESKTOP_SIZE-clause-goes_on
returns-then-encoding-eq-DESKTOP_SIZE-clause-goes_on c start sofar holds =
    rw c.if-encoding-eq-DESKTOP_SIZE.true
    (size_goes_on c.args.painter.now c.resize.new.self c.next_rectangle.new.painter (record { width = c.args.area.w; height = c.args.area.h }) c.next_rectangle.result start sofar c.args.left c.resize.ensures.size holds c.resize.ensures.painted
    c.next_rectangle.ensures.goes_on)
