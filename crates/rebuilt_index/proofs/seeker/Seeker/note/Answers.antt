-- It is behind the last one.
use Rattle.std.proofs.Common.{◌≤◌, ◌<◌, ◌^◌, List, [], sym, subst, arith}
use Rattle.recording_index.specs.declared.moment.KeyMoment.{KeyMoment}
use Rattle.rebuilt_index.specs.Seeking.{SeeksBy}
use Rattle.rebuilt_index.proofs.Sought.{notes}
use Rattle.rebuilt_index.proofs.seeker.Seeker.note.Goals as goal

pub returns-clause-ok : goal.returns-clause-ok
returns-clause-ok c = λ blocks seeks key.
    let s = c.args.self.now in
    let m : KeyMoment = c.args.moment in
    let time : s.last.time ≤ m.time = omega arith in
    let place : s.last.place ≤ m.place = omega arith in
    let short : m.time < 2 ^ 32 = omega arith in
    let near : m.place < 2 ^ 64 = omega arith in
    subst (λ (ms : List KeyMoment). SeeksBy [] s.main s.candidate ms m blocks) (sym c.in_ok-push.ensures.items)
    (notes s.main s.candidate s.moments.items s.last m blocks seeks key time place short near)
