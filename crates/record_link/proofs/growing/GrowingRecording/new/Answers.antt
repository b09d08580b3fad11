-- A recording begins with its line, and its index with that of an index.
use Rattle.std.proofs.Common.{refl}
use Rattle.record_link.proofs.Grown.{begins_growing, index_begins}
use Rattle.record_link.proofs.Points.{points_begin}
use Rattle.record_link.proofs.growing.GrowingRecording.new.Goals as goal

pub invariant_of-result : goal.invariant_of-result
invariant_of-result g c = (begins_growing _ c.in_ok-tape.ensures c.in_ok-index.ensures c.in_ok-writer.ensures refl).0

pub returns-clause-recorded : goal.returns-clause-recorded
returns-clause-recorded g c = (begins_growing _ c.in_ok-tape.ensures c.in_ok-index.ensures c.in_ok-writer.ensures refl).1

pub returns-clause-points : goal.returns-clause-points
returns-clause-points g c = points_begin _ (index_begins _ c.in_ok-index.ensures) refl
