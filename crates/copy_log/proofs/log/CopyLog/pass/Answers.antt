use Rattle.std.proofs.Common.{◌≡◌, ℕ, ◌+◌, ◌≤◌, ◌∙◌, refl, ap, arith}
use Rattle.std.specs.Prelude.{not}
use Rattle.copy_log.specs.Notes.{IsSameScreen, Log, PassedOn, note_at, passed_in}
use Rattle.copy_log.proofs.Adding.{note_step, note_there, pass_more, reached}
use Rattle.copy_log.proofs.log.CopyLog.pass.Goals as goal

pub loop-k-preserved : goal.loop-k-preserved
loop-k-preserved g c =
    let log : Log = c.args.self.now in
    let mid : PassedOn = c.loop-k.into in
    let new : PassedOn = c.add.new.self in
    let k : ℕ = c.loop-k.k in
    let size : IsSameScreen c.args.into.now mid = c.loop-k.invariant.size in
    let wide : mid.width ≡ log.width = size.width ∙ c.requires.room.0 in
    let high : mid.height ≡ log.height = size.height ∙ c.requires.room.1 in
    let is : c.index.result.now ≡ note_at log k = note_there c.self.inside.notes.items k c.place.result c.index.result.now c.self.invariant.1 c.place.ensures c.index.ensures ∙ ap (λ (v : Log). note_at v k) c.self.view_is in
    let far : (c.args.since ≤ log.number) × (log.number ≤ c.args.since + 4) = reached log c.args.since c.reaches.result c.reaches.ensures c.if-not-reaches.false in
    let own : c.self.inside.number ≡ log.number = ap (λ (v : Log). v.number) c.self.view_is in
    let from : c.args.since ≤ k = c.loop-k.auto.k in
    record {
      size = record { width = c.add.ensures.size.width ∙ size.width; height = c.add.ensures.size.height ∙ size.height };
      few = omega (arith, c.add.ensures.few, c.loop-k.invariant.few);
      passed = λ us on.
          pass_more log.width log.height c.args.area.now (λ t. not (g.T.HeldTiles.held c.args.held.now t)) log us c.args.since k (passed_in mid) (passed_in new) on refl refl from (omega (arith, own, c.loop-k-test.true)) (omega (arith, from, far.1))
          (c.loop-k.invariant.passed us on)
          (note_step log.width log.height c.args.area.now mid new log k c.index.result.now wide high is c.add.ensures.passed);
    }
