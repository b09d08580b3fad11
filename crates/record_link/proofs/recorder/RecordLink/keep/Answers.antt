-- What is kept was given, and is heard.
use Rattle.std.proofs.Common.{◌++◌, List, ℕ, take, max, refl, sym, ap, ◌∙◌}
use Rattle.recording.specs.Waiting.{stamp}
use Rattle.record_link.specs.Growing.{recorded_in}
use Rattle.record_link.specs.Linked.{Linked}
use Rattle.record_link.proofs.Linking.{hears_linked, state_gives}
use Rattle.record_link.proofs.recorder.RecordLink.keep.Goals as goal

pub invariant_of-self : goal.invariant_of-self
invariant_of-self g c =
    let old : Linked = record { growing = c.self.inside.growing; talk = c.self.inside.talk; failed = c.self.inside.failures } in
    let time : ℕ = max c.args.now c.self.inside.growing.waiting.time in
    let kept = c.in-Bytes.ensures.kept in
    (c.self.invariant.0, hears_linked old _ time c.split_at.result.0.now (kept.2 ∙ ap (λ (xs : List ℕ). recorded_in c.self.inside.growing ++ stamp time xs) (sym c.split_at.ensures.front)) c.in-Bytes.ensures.points c.hear.ensures.says c.self.invariant.1)

pub returns-in-Bytes-clause-gives : goal.returns-in-Bytes-clause-gives
returns-in-Bytes-clause-gives g c =
    let old : Linked = record { growing = c.self.inside.growing; talk = c.self.inside.talk; failed = c.self.inside.failures } in
    let time : ℕ = max c.args.now c.self.inside.growing.waiting.time in
    let kept = c.in-Bytes.ensures.kept in
    let new : Linked = record { growing = c.keep.new.self; talk = c.hear.new.self; failed = c.self.inside.failures } in
    rw (← c.self.view_is) (kept.0, kept.1, state_gives old new time (take c.in-Bytes.count c.args.bytes.now) c.hear.ensures.taken kept.2 refl)
