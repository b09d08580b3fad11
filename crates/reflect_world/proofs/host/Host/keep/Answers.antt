use Rattle.std.proofs.Common.{[], ◌∷◌, ◌++◌, ap, subst, sym, ◌∙◌}
use Rattle.reflect_world.specs.Host.{HasReadTo, HostSide}
use Rattle.reflect_world.specs.contracts.host.Host.{the_view}
use Rattle.reflect_world.proofs.Hosts.{host_keeps}
use Rattle.reflect_world.proofs.host.Host.keep.Goals as goal

pub returns-clause-stands : goal.returns-clause-stands
returns-clause-stands c =
    λ past bytes us r.
    host_keeps (the_view c.self.inside) c.args.patch past bytes us (ap (λ (host : HostSide). host.waiting) c.self.view_is ∙ c.requires.none)
    (subst (λ (host : HostSide). HasReadTo past bytes (us ++ c.args.patch.update ∷ []) host) (sym c.self.view_is) r)
