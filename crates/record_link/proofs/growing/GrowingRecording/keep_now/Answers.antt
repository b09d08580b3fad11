-- What is kept comes behind what was recorded, with its time.
use Rattle.std.proofs.Common.{◌≤◌, arith, sym, subst, refl}
use Rattle.record_link.specs.Growing.{Growing}
use Rattle.record_link.proofs.Grown.{kept_now}
use Rattle.record_link.proofs.Points.{points_same}
use Rattle.record_link.proofs.growing.GrowingRecording.keep_now.Goals as goal

pub invariant_of-self-2 : goal.invariant_of-self-2
invariant_of-self-2 g c =
    let old : Growing = record { tape = c.self.inside.tape; index = c.self.inside.index; waiting = c.self.inside.writer; is_key = c.self.inside.is_key } in
    let le : c.self.inside.writer.time ≤ c.args.time = subst (λ (x : Growing). x.waiting.time ≤ c.args.time) (sym c.self.view_is) c.requires in
    (kept_now old _ c.args.time c.keep-count.result c.args.bytes.now c.self.invariant le c.ranges.time.fits c.keep-count.ensures.count refl refl refl c.keep-count.ensures.kept).0

pub returns-clause-kept : goal.returns-clause-kept
returns-clause-kept g c =
    let old : Growing = record { tape = c.self.inside.tape; index = c.self.inside.index; waiting = c.self.inside.writer; is_key = c.self.inside.is_key } in
    let le : c.self.inside.writer.time ≤ c.args.time = subst (λ (x : Growing). x.waiting.time ≤ c.args.time) (sym c.self.view_is) c.requires in
    rw (← c.self.view_is) (omega arith, omega (arith, c.keep-count.ensures.count), (kept_now old _ c.args.time c.keep-count.result c.args.bytes.now c.self.invariant le c.ranges.time.fits c.keep-count.ensures.count refl refl refl c.keep-count.ensures.kept).1)

pub returns-clause-points : goal.returns-clause-points
returns-clause-points g c = rw (← c.self.view_is) (points_same _ _ refl refl refl)
