-- A fault in what is said is one for who has followed all.
use Rattle.std.proofs.Common.{sym, ◌∙◌}
use Rattle.std.proofs.lemmas.Result.{err_from_is_err_and}
use Rattle.rebuilt_index.proofs.Stopping.{main_stops, candidate_stops}
use Rattle.rebuilt_index.proofs.seeker.Seeker.follow.Goals as goal

pub returns-in_err-feed-clause-err : goal.returns-in_err-feed-clause-err
returns-in_err-feed-clause-err c =
    let p = err_from_is_err_and c.from_residual.result c.from_residual.ensures.1 in
    let s = c.args.self.now in
    rw (p.1, p.2) (λ blocks seeks. main_stops s.main s.candidate s.moments.items s.last blocks c.args.said.now c.in_err-feed.field-0.0 seeks c.in_err-feed.ensures.err)

pub returns-in_err-feed-2-clause-err : goal.returns-in_err-feed-2-clause-err
returns-in_err-feed-2-clause-err c =
    let exit = c.from_residual-in_err-feed-2 in
    let p = err_from_is_err_and exit.result exit.ensures.1 in
    let s = c.args.self.now in
    rw (p.1, p.2) (λ blocks seeks. candidate_stops s.main s.candidate c.in-Some.candidate s.moments.items s.last blocks c.args.said.now c.in_err-feed-2.field-0.0 (sym c.take.ensures.value ∙ c.in-Some.is) seeks c.in_err-feed-2.ensures.err)
