use Rattle.std.proofs.Common.{length, map}
use Rattle.host_decoder.specs.Updates.{in_colours}
use Rattle.host_decoder.proofs.RectangleData.{uses_open}
use Rattle.host_decoder.proofs.state.HostState.advance_raw.Goals as goal

pub returns-in-Pixels-clause-uses : goal.returns-in-Pixels-clause-uses
returns-in-Pixels-clause-uses c so start r s =
    let d = rw c.in-Pixels.is at s in
    let bytes = c.args.bytes.now in
    let fed = c.feed_raw.ensures.fed so start (map in_colours d.sofar) d.reading d.stands in
    rw d.reads (uses_open c.args.painter.now c.feed_raw.new.painter c.feed_raw.new.self _ (length bytes) bytes start d.sofar d.reading fed.2 fed.1 fed.0)
