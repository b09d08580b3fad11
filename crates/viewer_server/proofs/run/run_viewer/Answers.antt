use Rattle.std.proofs.Common.{ap, ◌∙◌}
use Rattle.viewer_server.proofs.Served.{serves_fault, serves_left, serves_refused}
use Rattle.viewer_server.proofs.run.run_viewer.Goals as goal

pub returns-in-Ok-clause-serves : goal.returns-in-Ok-clause-serves
returns-in-Ok-clause-serves g c = λ s role greet k.
    let leaves = rw (c.end.ensures.others.3, c.end.ensures.others.2, c.end.ensures.others.1) at c.leave.ensures.leaves in
    rw (c.leave.ensures.source, c.end.ensures.others.0)
    (serves_left g.S.ScreenSource.looks g.S.ScreenSource.cuts g.S.ScreenSource.may_end _ g.K.InputSink.may_refuse _ _ _ s _ c.serve-served.new.visit.session c.serve-served.new.visit.inbox _ _ _ (g.L.Link.state c.serve-served.new.visit.link) _ (ap g.L.Link.state c.leave.ensures.link ∙ c.end.ensures.link) _ _
    leaves (c.in-Ok.ensures.serves s role greet k))

pub returns-in-Err-At-clause-serves : goal.returns-in-Err-At-clause-serves
returns-in-Err-At-clause-serves g c = λ s role greet k.
    let leaves = rw (c.end.ensures.others.3, c.end.ensures.others.2, c.end.ensures.others.1) at c.leave-in-Err-At.ensures.leaves in
    rw (c.leave-in-Err-At.ensures.source, c.end.ensures.others.0)
    (serves_fault g.S.ScreenSource.looks g.S.ScreenSource.cuts g.S.ScreenSource.may_end _ g.K.InputSink.may_refuse _ _ _ s _ c.serve-served.new.visit.session c.serve-served.new.visit.inbox _ _ _ (g.L.Link.state c.serve-served.new.visit.link) _ (ap g.L.Link.state c.leave-in-Err-At.ensures.link ∙ c.end.ensures.link) _ _ _
    leaves (rw c.in-Err-At.field-0-is at (c.in-Err-At.ensures.serves s role greet k)))

-- Nothing went to the sink after that.
pub returns-in-Err-Refused-clause-serves : goal.returns-in-Err-Refused-clause-serves
returns-in-Err-Refused-clause-serves g c = λ s role greet k.
    rw (c.end.ensures.others.0, c.end.ensures.others.1)
    (serves_refused g.S.ScreenSource.looks g.S.ScreenSource.cuts g.S.ScreenSource.may_end _ g.K.InputSink.may_refuse _ _ _ s _ c.serve-served.new.visit.session c.serve-served.new.visit.inbox _ _ _ (g.L.Link.state c.serve-served.new.visit.link) _ c.end.ensures.link _
    (rw c.in-Err-Refused.field-0-is at (c.in-Err-Refused.ensures.serves s role greet k)))
