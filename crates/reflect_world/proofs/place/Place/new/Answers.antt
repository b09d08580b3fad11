use Rattle.std.proofs.Common.{Bool, sym, subst}
use Rattle.viewer_session.specs.Session.{State, Stands}
use Rattle.viewer_session.specs.Viewer.{new_viewer}
use Rattle.reflect_world.proofs.place.Place.new.Goals as goal
use Rattle.reflect_world.proofs.place.Place.new.Goals.{then-greet+in_ok-session, else-greet+in_ok-session-2}

pub returns-clause-stands : goal.returns-clause-stands
returns-clause-stands c = λ s width height name formed told.
    let P : State → Bool → Type 0 = λ st greet. Stands s st (new_viewer c.args.role greet) in
    elim c.if-greet.branch [
      | then-greet+in_ok-session w ↦ subst (λ st. P st c.args.greet) (sym w.session-is) (subst (λ greet. P w.in_ok-session.session greet) (sym w.if-greet.true) (w.in_ok-session.ensures.stands s width height name formed told))
      | else-greet+in_ok-session-2 w ↦ subst (λ st. P st c.args.greet) (sym w.session-is) (subst (λ greet. P w.in_ok-session-2.session greet) (sym w.if-greet.false) (w.in_ok-session-2.ensures.stands s width height formed told))
    ]
