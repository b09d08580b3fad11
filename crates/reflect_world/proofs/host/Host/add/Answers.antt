use Rattle.std.proofs.Common.{subst, sym}
use Rattle.std.proofs.lemmas.Result.{on_ok_weaker}
use Rattle.reflect_world.specs.Host.{HostSide, HostStands}
use Rattle.reflect_world.specs.contracts.host.Host.{the_view}
use Rattle.reflect_world.proofs.Hosts.{host_grows}
use Rattle.reflect_world.proofs.host.Host.add.Goals as goal

pub returns-clause-ok : goal.returns-clause-ok
returns-clause-ok c =
    on_ok_weaker c.add.result
    (λ is past all us k. host_grows (the_view c.self.inside) past c.args.bytes.now c.add.new.self all us is (subst (λ (host : HostSide). HostStands past all us host) (sym c.self.view_is) k))
    c.add.ensures.ok
