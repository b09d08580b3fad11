use Rattle.std.proofs.Common.{Bool, ◌∷◌, sym, subst, ◌∙◌}
use Rattle.tiles.specs.Touched.{Requested}
use Rattle.tiles.specs.Have.{HaveStands}
use Rattle.tiles.proofs.HaveLaws.{stands_incremental}
use Rattle.viewer_session.specs.Session.{State, Serves, after_noting}
use Rattle.viewer_session.specs.contracts.session.Session.{the_view}
use Rattle.rfb_wire.specs.ClientMessage.{Ask}
use Rattle.viewer_session.proofs.SessionLaws.{serves_asked, stands_empty}
use Rattle.viewer_session.proofs.session.Session.ask.Goals as goal
use Rattle.viewer_session.proofs.session.Session.ask.Goals.{else-not-incremental-via-then-not-incremental+else-not-is_empty, else-not-incremental-via-else-not-incremental}

pub returns-then-not-is_empty-clause-serves : goal.returns-then-not-is_empty-clause-serves
returns-then-not-is_empty-clause-serves c =
    λ s p k.
    serves_asked s (the_view c.self.inside) c.args.self.now p c.args.incremental c.args.rect.now c.clip-clipped.result c.request.new.self c.forget.new.self c.self.view_is k c.clip-clipped.ensures (c.request.ensures.stands c.args.incremental)
    (λ es h. subst (λ (b : Bool). HaveStands c.forget.new.self (Requested b c.clip-clipped.result ∷ es)) (sym c.if-not-incremental.true) (c.forget.ensures.stands es h))

pub returns-else-not-incremental-clause-serves : goal.returns-else-not-incremental-clause-serves
returns-else-not-incremental-clause-serves c =
    elim c.else-not-incremental.branch [
      | else-not-incremental-via-then-not-incremental+else-not-is_empty w ↦ λ s p k. subst (λ (st : State). Serves s st (after_noting (Ask c.args.incremental c.args.rect.now) p)) (sym w.self-is)
          (serves_asked s (the_view c.self.inside) c.args.self.now p c.args.incremental c.args.rect.now c.clip-clipped.result c.request.new.self c.self.inside.have c.self.view_is k c.clip-clipped.ensures (c.request.ensures.stands c.args.incremental)
          (λ es h. stands_empty c.args.incremental c.clip-clipped.result c.self.inside.have es (sym w.is_empty.ensures ∙ w.if-not-is_empty.false) h))
      | else-not-incremental-via-else-not-incremental w ↦ λ s p k. subst (λ (st : State). Serves s st (after_noting (Ask c.args.incremental c.args.rect.now) p)) (sym w.self-is)
          (serves_asked s (the_view c.self.inside) c.args.self.now p c.args.incremental c.args.rect.now c.clip-clipped.result c.request.new.self c.self.inside.have c.self.view_is k c.clip-clipped.ensures (c.request.ensures.stands c.args.incremental)
          (λ es h. subst (λ (b : Bool). HaveStands c.self.inside.have (Requested b c.clip-clipped.result ∷ es)) (sym w.if-not-incremental.false) (stands_incremental c.self.inside.have c.clip-clipped.result es h)))
    ]
