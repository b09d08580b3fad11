-- A key moment is begun where all that was recorded is spelled.
use Rattle.std.proofs.Common.{◌≡◌, [], refl, ap, ◌∙◌}
use Rattle.record_link.specs.Tapes.{IsClear}
use Rattle.record_link.specs.Growing.{Growing}
use Rattle.record_link.proofs.Grown.{taken_growing}
use Rattle.record_link.proofs.Points.{points_begun}
use Rattle.record_link.proofs.growing.GrowingRecording.begin_key.Goals as goal

pub invariant_of-self : goal.invariant_of-self
invariant_of-self g c =
    let old : Growing = record { tape = c.self.inside.tape; index = c.self.inside.index; waiting = c.self.inside.writer; is_key = c.self.inside.is_key } in
    let clear : IsClear c.self.inside.index = c.is_clear.ensures.0 c.if-not-is_clear.false in
    (taken_growing old _ c.self.invariant refl refl refl (λ _. clear)).0

pub returns-clause-recorded : goal.returns-clause-recorded
returns-clause-recorded g c =
    let old : Growing = record { tape = c.self.inside.tape; index = c.self.inside.index; waiting = c.self.inside.writer; is_key = c.self.inside.is_key } in
    let clear : IsClear c.self.inside.index = c.is_clear.ensures.0 c.if-not-is_clear.false in
    rw (← c.self.view_is) (taken_growing old _ c.self.invariant refl refl refl (λ _. clear)).1

pub returns-clause-begun : goal.returns-clause-begun
returns-clause-begun g c =
    let old : Growing = record { tape = c.self.inside.tape; index = c.self.inside.index; waiting = c.self.inside.writer; is_key = c.self.inside.is_key } in
    let none : c.self.inside.writer.said ≡ [] = ap (λ (x : Growing). x.waiting.said) c.self.view_is ∙ (c.is_whole.ensures.0 c.if-not-is_whole.false).none in
    λ _. rw (← c.self.view_is) (points_begun old _ c.self.invariant refl refl none c.if-self.false refl)
