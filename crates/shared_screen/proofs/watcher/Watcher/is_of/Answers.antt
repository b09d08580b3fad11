-- Both know beginnings of one history.
use Rattle.std.proofs.Common.{List, ap, sym, subst}
use Rattle.raster.specs.Update.{Update}
use Rattle.reflect_core.specs.Sequential.{Shared, Begins}
use Rattle.shared_screen.specs.History.{Change, puts_of}
use Rattle.shared_screen.proofs.Beginnings.{begins_self}
use Rattle.shared_screen.proofs.Knowing.{one_begins}
use Rattle.shared_screen.proofs.watcher.Watcher.is_of.Goals as goal

pub returns : goal.returns
returns g c =
    let ours : Begins c.args.self.now.updates (puts_of c.front-both.result) =
    subst (λ (l : List Update). Begins l (puts_of c.front-both.result)) (ap (λ (v : Shared). v.updates) c.self.view_is) c.front-both.ensures in
    let theirs : Begins (puts_of c.args.publisher.now.changes) (puts_of c.front.result) =
    subst (λ (l : List Change). Begins (puts_of c.args.publisher.now.changes) (puts_of l)) (sym c.front.ensures) (begins_self (puts_of c.args.publisher.now.changes)) in
    one_begins c.args.self.now.updates (puts_of c.args.publisher.now.changes) c.front-both.result c.front.result c.learn-2.new.self ours theirs c.learn-2.ensures.mine c.learn-2.ensures.told
