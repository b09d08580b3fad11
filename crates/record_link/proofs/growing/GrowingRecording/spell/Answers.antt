-- The block that waited is spelled, and is in the index where it is a key moment.
use Rattle.std.proofs.Common.{◌≡◌, ◌≢◌, ◌<◌, ◌^◌, [], length, arith, sym, subst, refl}
use Rattle.recording_index.specs.declared.moment.KeyMoment.{KeyMoment}
use Rattle.record_link.specs.Tapes.{IsClear}
use Rattle.record_link.specs.Growing.{Growing}
use Rattle.record_link.proofs.Grown.{spells_growing, notes_growing, as_one}
use Rattle.record_link.proofs.Points.{points_stay, points_noted}
use Rattle.record_link.proofs.growing.GrowingRecording.spell.Goals as goal

pub invariant_of-self : goal.invariant_of-self
invariant_of-self g c =
    let old : Growing = record { tape = c.self.inside.tape; index = c.self.inside.index; waiting = c.self.inside.writer; is_key = c.self.inside.is_key } in
    (spells_growing old _ c.self.invariant c.spell.ensures.spelled c.spell.ensures.empty refl refl).0

pub returns-then-not-self-clause-recorded : goal.returns-then-not-self-clause-recorded
returns-then-not-self-clause-recorded g c =
    let old : Growing = record { tape = c.self.inside.tape; index = c.self.inside.index; waiting = c.self.inside.writer; is_key = c.self.inside.is_key } in
    rw (← c.self.view_is) (spells_growing old _ c.self.invariant c.spell.ensures.spelled c.spell.ensures.empty refl refl).1

pub returns-then-not-self-clause-points : goal.returns-then-not-self-clause-points
returns-then-not-self-clause-points g c =
    let old : Growing = record { tape = c.self.inside.tape; index = c.self.inside.index; waiting = c.self.inside.writer; is_key = c.self.inside.is_key } in
    rw (← c.self.view_is) (points_stay old _ _ c.self.invariant c.spell.ensures.spelled refl c.if-not-self.true c.if-not-self.true)

pub invariant_of-self-2 : goal.invariant_of-self-2
invariant_of-self-2 g c =
    let old : Growing = record { tape = c.self.inside.tape; index = c.self.inside.index; waiting = c.self.inside.writer; is_key = c.self.inside.is_key } in
    let m : KeyMoment = record { time = c.time.result; place = c.len.result } in
    let is : m ≡ record { time = c.self.inside.writer.time; place = length c.self.inside.tape.spelled } = cc in
    let some : c.self.inside.writer.said ≢ [] = subst (λ (x : Growing). x.waiting.said ≢ []) (sym c.self.view_is) c.requires.some in
    let clear : IsClear c.self.inside.tape = subst (λ (x : Growing). IsClear x.tape) (sym c.self.view_is) c.requires.clear in
    let short : length c.self.inside.tape.spelled < 2 ^ 64 = omega (arith, clear.room) in
    (notes_growing old _ m c.self.invariant (as_one c.self.inside.writer some) is short c.spell.ensures.spelled c.spell.ensures.empty c.add.ensures.spelled refl).0

pub returns-clause-recorded : goal.returns-clause-recorded
returns-clause-recorded g c =
    let old : Growing = record { tape = c.self.inside.tape; index = c.self.inside.index; waiting = c.self.inside.writer; is_key = c.self.inside.is_key } in
    let m : KeyMoment = record { time = c.time.result; place = c.len.result } in
    let is : m ≡ record { time = c.self.inside.writer.time; place = length c.self.inside.tape.spelled } = cc in
    let some : c.self.inside.writer.said ≢ [] = subst (λ (x : Growing). x.waiting.said ≢ []) (sym c.self.view_is) c.requires.some in
    let clear : IsClear c.self.inside.tape = subst (λ (x : Growing). IsClear x.tape) (sym c.self.view_is) c.requires.clear in
    let short : length c.self.inside.tape.spelled < 2 ^ 64 = omega (arith, clear.room) in
    rw (← c.self.view_is) (notes_growing old _ m c.self.invariant (as_one c.self.inside.writer some) is short c.spell.ensures.spelled c.spell.ensures.empty c.add.ensures.spelled refl).1

pub returns-clause-points : goal.returns-clause-points
returns-clause-points g c =
    let old : Growing = record { tape = c.self.inside.tape; index = c.self.inside.index; waiting = c.self.inside.writer; is_key = c.self.inside.is_key } in
    let m : KeyMoment = record { time = c.time.result; place = c.len.result } in
    let is : m ≡ record { time = c.self.inside.writer.time; place = length c.self.inside.tape.spelled } = cc in
    let some : c.self.inside.writer.said ≢ [] = subst (λ (x : Growing). x.waiting.said ≢ []) (sym c.self.view_is) c.requires.some in
    let clear : IsClear c.self.inside.tape = subst (λ (x : Growing). IsClear x.tape) (sym c.self.view_is) c.requires.clear in
    let short : length c.self.inside.tape.spelled < 2 ^ 64 = omega (arith, clear.room) in
    rw (← c.self.view_is) (points_noted old _ m _ c.self.invariant (as_one c.self.inside.writer some) is short c.add.ensures.spelled c.spell.ensures.spelled c.if-not-self.false refl)
