use Rattle.std.proofs.Common.{◌≡◌, ◌++◌, ℕ, List, take, ap, ◌∙◌}
use Rattle.reflect_core.specs.Sequential.{Begins}
use Rattle.link.specs.Links.{LinkState}
use Rattle.viewer_server.proofs.Saying.{says_on, first_of_piece, piece_within}
use Rattle.viewer_server.proofs.serve.say.Goals as goal

pub loop-link-preserved : goal.loop-link-preserved
loop-link-preserved g c =
    let inv = c.loop-link.invariant in
    let out : List ℕ = c.out-in-loop-link.result.now in
    let begins : Begins out c.loop-link.session.unsent = c.out-in-loop-link.ensures.begins in
    let given : g.L.Link.state c.give.new.self ≡ record (g.L.Link.state c.loop-link.link) { given = (g.L.Link.state c.loop-link.link).given ++ take c.in-Bytes.count c.loop-link.session.unsent } =
    c.in-Bytes.ensures.2 ∙ ap (λ (xs : List ℕ). record (g.L.Link.state c.loop-link.link) { given = (g.L.Link.state c.loop-link.link).given ++ xs }) (first_of_piece out c.loop-link.session.unsent c.in-Bytes.count begins c.in-Bytes.ensures.1) in
    record {
      says = says_on c.args.session.now c.loop-link.session c.sent.new.self (g.L.Link.state c.args.link.now) (g.L.Link.state c.loop-link.link) (g.L.Link.state c.give.new.self) c.in-Bytes.count
          inv.says (piece_within out c.loop-link.session.unsent c.in-Bytes.count begins c.in-Bytes.ensures.1) given c.sent.ensures.unsent c.sent.ensures.stands;
      failed = ap (λ (l : LinkState). l.failed) given ∙ inv.failed;
      ended = ap (λ (l : LinkState). l.ended) given ∙ inv.ended;
    }
