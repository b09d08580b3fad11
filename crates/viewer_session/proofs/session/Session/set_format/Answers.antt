use Rattle.viewer_session.specs.contracts.session.Session.{the_view}
use Rattle.viewer_session.proofs.SessionLaws.{serves_format}
use Rattle.viewer_session.proofs.session.Session.set_format.Goals as goal

pub returns-clause-serves : goal.returns-clause-serves
returns-clause-serves c = λ s p k.
    serves_format s (the_view c.self.inside) c.args.self.now p c.args.format c.new_format.new.self c.forget_all.new.self c.self.view_is k c.new_format.ensures.stands c.forget_all.ensures.stands
