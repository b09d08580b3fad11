-- The session's name is the one that was kept.
use Rattle.std.proofs.Common.{◌≡◌, true, Some, List, ℕ, IfOk, subst}
use Rattle.viewer_session.specs.Session.{State, Stands}
use Rattle.viewer_session.specs.Viewer.{Setup, new_viewer}
use Rattle.reflector.proofs.session_maker.SessionMaker.open.Goals as goal

pub returns-clause-stands : goal.returns-clause-stands
returns-clause-stands c =
    subst (λ (name : List ℕ). IfOk c.open.result (λ (session : State). (s : Setup) → s.w ≡ c.args.self.now.width → s.h ≡ c.args.self.now.height → s.name ≡ name → s.form ≡ c.args.self.now.form → s.host ≡ Some c.args.self.now.host → Stands s session (new_viewer c.args.self.now.role true))) c.as_slice.ensures.value c.open.ensures.stands
