use Rattle.std.proofs.Common.{take, arith}
use Rattle.std.proofs.lemmas.List.{length-take}
use Rattle.host_decoder.specs.DataParts.{RawProgress}
use Rattle.host_decoder.proofs.RawPieces.{drawn_at_count, whole_at_count}
use Rattle.host_decoder.proofs.raw_data.RawPixelsRectReader.is_whole.Goals as goal

pub returns-clause-whole : goal.returns-clause-whole
returns-clause-whole c area canvas reading h =
    let inside = c.self.inside in
    let p : RawProgress = record { width = inside.width; count = inside.count; done = inside.done; begun = take inside.filled inside.begun } in
    whole_at_count area p canvas reading (omega (arith, length-take inside.filled inside.begun, c.self.invariant)) (omega (arith, c.self.invariant)) (rw (← c.self.view_is) at h)

pub returns-clause-drawn : goal.returns-clause-drawn
returns-clause-drawn c area canvas painted h =
    let inside = c.self.inside in
    let p : RawProgress = record { width = inside.width; count = inside.count; done = inside.done; begun = take inside.filled inside.begun } in
    drawn_at_count area p canvas painted (omega (arith, length-take inside.filled inside.begun, c.self.invariant)) (omega (arith, c.self.invariant)) (rw (← c.self.view_is) at h)
