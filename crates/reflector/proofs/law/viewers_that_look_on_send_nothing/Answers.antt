-- The promise, over what the place knows in the end.
use Rattle.std.proofs.Common.{[], refl, sym, append-nil}
use Rattle.reflector.proofs.Watching.{sends_nothing}
use Rattle.reflector.proofs.law.viewers_that_look_on_send_nothing.Goals as goal

pub returns : goal.returns
returns g c = λ s old new keeps. sends_nothing _ _ _ _ _ refl old new (keeps (g.S.ScreenSource.known new.source) ([], sym (append-nil _)))
