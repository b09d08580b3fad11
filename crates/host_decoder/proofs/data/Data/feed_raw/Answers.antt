use Rattle.std.proofs.Common.{arith}
use Rattle.host_decoder.proofs.Drawn.{around_anywhere}
use Rattle.host_decoder.proofs.Within.{fed_within}
use Rattle.host_decoder.proofs.data.Data.feed_raw.Goals as goal

pub returns-clause-fed : goal.returns-clause-fed
returns-clause-fed c so start paints reading h =
    let area = c.self.inside.area in
    let painter = c.args.painter.now in
    let stands = rw c.in-Raw.is at (rw (← c.self.view_is) at h) in
    let t = rw c.draw_on.ensures at c.take_all.ensures in
    let around = around_anywhere start paints area area painter stands.0 in
    fed_within start paints c.take_all.new.self (record painter { area = area }) c.take_all.new.painter reading c.args.piece.now around t.around t.begun (omega (arith, t.more, c.missing.ensures.left)) (t.takes reading stands.1)
