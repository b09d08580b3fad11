-- The block is to be followed, and is tried or not.
use Rattle.std.proofs.Common.{ℕ}
use Rattle.std.proofs.lemmas.Result.{err_from_is_err_and}
use Rattle.rebuilt_index.proofs.Sought.{goes_on, tries}
use Rattle.rebuilt_index.proofs.Stopping.{only_memory, seeks_size}
use Rattle.rebuilt_index.proofs.seeker.Seeker.begin.Goals as goal

pub returns-then-not-may_begin-clause-ok : goal.returns-then-not-may_begin-clause-ok
returns-then-not-may_begin-clause-ok c = λ blocks block seeks is same.
    let s = c.args.self.now in
    goes_on s.main s.candidate s.moments.items s.last blocks block c.args.said.now same seeks

pub returns-clause-ok : goal.returns-clause-ok
returns-clause-ok c = λ blocks block seeks is same.
    let s = c.args.self.now in
    tries s.main c.in_ok-follower.follower s.candidate s.moments.items s.last c.args.moment blocks block c.args.said.now c.size-width.result.0 c.size-width.result.1 same is c.size-width.ensures.0 c.size-width.ensures.1 (c.may_begin.ensures c.if-not-may_begin.false) c.in_ok-follower.ensures.ok seeks

pub returns-in_err-follower-clause-err : goal.returns-in_err-follower-clause-err
returns-in_err-follower-clause-err c =
    let p = err_from_is_err_and c.from_residual.result c.from_residual.ensures.1 in
    let s = c.args.self.now in
    let w : ℕ = c.size-width.result.0 in
    let h : ℕ = c.size-width.result.1 in
    rw (p.1, p.2) (λ blocks seeks. only_memory w h c.in_err-follower.field-0.0 (seeks_size s.main s.candidate s.moments.items s.last blocks w h c.size-width.ensures.0 c.size-width.ensures.1 seeks) c.in_err-follower.ensures.err)
