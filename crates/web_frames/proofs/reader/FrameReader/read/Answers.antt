use Rattle.std.proofs.Common.{◌<◌, sym, ◌∙◌, length, arith}
use Rattle.web_frames.proofs.Reading.{read_none, read_some}
use Rattle.web_frames.proofs.reader.FrameReader.read.Goals as goal
use Rattle.web_frames.proofs.reader.FrameReader.read.Goals.{in-Some, in_default}

pub loop-i-preserved : goal.loop-i-preserved
loop-i-preserved c =
    let lt : c.loop-i.i < length c.loop-i.piece = omega arith in
    elim c.match-feed.branch [
      | in-Some w ↦ rw (w.piece-is, w.count-is) (read_some _ c.loop-i.self c.feed.new.self _ c.loop-i.piece c.loop-i.i c.loop-i.count _ c.loop-i.invariant lt c.feed.ensures.after (sym c.feed.ensures.brings ∙ w.in-Some.is))
      | in_default w ↦ rw (w.piece-is, w.count-is) (read_none _ c.loop-i.self c.feed.new.self _ c.loop-i.piece c.loop-i.i c.loop-i.count c.loop-i.invariant lt c.feed.ensures.after (sym c.feed.ensures.brings ∙ w.in_default.is))
    ]
