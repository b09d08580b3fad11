-- What files take changes nothing of what was recorded.
use Rattle.std.proofs.Common.{◌≡◌, subst, sym, refl, ap, ◌∙◌}
use Rattle.record_link.specs.Tapes.{Tape, IsClear}
use Rattle.record_link.specs.Growing.{Growing}
use Rattle.record_link.proofs.Grown.{taken_growing}
use Rattle.record_link.proofs.Points.{points_same}
use Rattle.record_link.proofs.growing.GrowingRecording.append.Goals as goal

pub invariant_of-self : goal.invariant_of-self
invariant_of-self g c =
    let old : Growing = record { tape = c.self.inside.tape; index = c.self.inside.index; waiting = c.self.inside.writer; is_key = c.self.inside.is_key } in
    let tape : c.end_if_full.new.self.spelled ≡ c.self.inside.tape.spelled = ap (λ (t : Tape). t.spelled) c.end_if_full.ensures.same ∙ c.append_all.ensures.spelled in
    (taken_growing old _ c.self.invariant tape c.append_all-2.ensures.spelled refl (λ on. subst IsClear (sym (c.append_all-2.ensures.clear (c.self.invariant.clear on).none)) (c.self.invariant.clear on))).0

pub returns-clause-recorded : goal.returns-clause-recorded
returns-clause-recorded g c =
    let old : Growing = record { tape = c.self.inside.tape; index = c.self.inside.index; waiting = c.self.inside.writer; is_key = c.self.inside.is_key } in
    let tape : c.end_if_full.new.self.spelled ≡ c.self.inside.tape.spelled = ap (λ (t : Tape). t.spelled) c.end_if_full.ensures.same ∙ c.append_all.ensures.spelled in
    rw (← c.self.view_is) (taken_growing old _ c.self.invariant tape c.append_all-2.ensures.spelled refl (λ on. subst IsClear (sym (c.append_all-2.ensures.clear (c.self.invariant.clear on).none)) (c.self.invariant.clear on))).1

pub returns-clause-points : goal.returns-clause-points
returns-clause-points g c =
    let tape : c.end_if_full.new.self.spelled ≡ c.self.inside.tape.spelled = ap (λ (t : Tape). t.spelled) c.end_if_full.ensures.same ∙ c.append_all.ensures.spelled in
    rw (← c.self.view_is) (points_same _ _ tape c.append_all-2.ensures.spelled refl)
