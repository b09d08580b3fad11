-- It is a key moment.
use Rattle.std.proofs.Common.{◌≡◌, [], Option, Some, sym, subst, ◌∙◌}
use Rattle.rebuilt_index.specs.Seeking.{SeeksBy}
use Rattle.rebuilt_index.specs.declared.seeker.Candidate.{Candidate}
use Rattle.rebuilt_index.proofs.Sought.{is_key, without}
use Rattle.rebuilt_index.proofs.seeker.Seeker.judge.Goals as goal

pub returns-then-is_key-clause-ok : goal.returns-then-is_key-clause-ok
returns-then-is_key-clause-ok c = λ blocks seeks.
    let s = c.args.self.now in
    let t : Candidate = c.in-Some.candidate in
    let is : s.candidate ≡ Some t = sym c.take.ensures.value ∙ c.in-Some.is in
    let key = is_key s.main s.candidate t s.moments.items s.last blocks is seeks (c.is_key.ensures.main c.if-is_key.true) (c.is_key.ensures.candidate c.if-is_key.true) (c.is_key.ensures.same c.if-is_key.true) t.follower.pair.width t.follower.pair.height in
    c.note.ensures.ok blocks (subst (λ (o : Option Candidate). SeeksBy [] s.main o s.moments.items s.last blocks) (sym c.take.ensures.after) (without s.main s.candidate s.moments.items s.last blocks seeks)) key
