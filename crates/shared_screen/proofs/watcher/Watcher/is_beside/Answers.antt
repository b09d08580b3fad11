-- Both know beginnings of one history.
use Rattle.std.proofs.Common.{List, ap, subst}
use Rattle.raster.specs.Update.{Update}
use Rattle.reflect_core.specs.Sequential.{Shared, Begins}
use Rattle.shared_screen.specs.History.{puts_of}
use Rattle.shared_screen.proofs.Knowing.{one_begins}
use Rattle.shared_screen.proofs.watcher.Watcher.is_beside.Goals as goal

pub returns : goal.returns
returns g c =
    let ours : Begins c.args.self.now.updates (puts_of c.front-both.result) =
    subst (λ (l : List Update). Begins l (puts_of c.front-both.result)) (ap (λ (v : Shared). v.updates) c.self.view_is) c.front-both.ensures in
    let theirs : Begins c.args.other.now.updates (puts_of c.front.result) =
    subst (λ (l : List Update). Begins l (puts_of c.front.result)) (ap (λ (v : Shared). v.updates) c.other.view_is) c.front.ensures in
    one_begins c.args.self.now.updates c.args.other.now.updates c.front-both.result c.front.result c.learn-2.new.self ours theirs c.learn-2.ensures.mine c.learn-2.ensures.told
