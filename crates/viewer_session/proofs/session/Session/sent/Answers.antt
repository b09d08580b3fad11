use Rattle.std.proofs.Common.{◌≤◌, ℕ, List, length, sym, ap, subst, arith}
use Rattle.reflect_core.specs.declared.cut.Cut.{Cut}
use Rattle.viewer_session.specs.Session.{State, Stands, after_writing}
use Rattle.viewer_session.specs.contracts.session.Session.{the_view}
use Rattle.viewer_session.proofs.SessionLaws.{stands_written}
use Rattle.viewer_session.proofs.session.Session.sent.Goals as goal

pub returns-clause-stands : goal.returns-clause-stands
returns-clause-stands c = λ s p k.
    let st = the_view c.self.inside in
    let piece : List ℕ = c.sent.new.self.piece in
    let le : c.args.n ≤ length st.unsent = omega (arith, c.requires, ap (λ (t : State). length t.piece) c.self.view_is, c.sent.ensures.few) in
    subst (λ (cut : Cut). Stands s (record st { cut = cut; piece = piece; unsent = c.sent.new.self.unsent }) (after_writing c.args.n p)) (sym c.sent.ensures.cut)
    (subst (λ (u : List ℕ). Stands s (record st { piece = piece; unsent = u }) (after_writing c.args.n p)) (sym c.sent.ensures.unsent)
    (stands_written s st p c.args.n piece le (subst (λ (t : State). Stands s t p) (sym c.self.view_is) k)))
