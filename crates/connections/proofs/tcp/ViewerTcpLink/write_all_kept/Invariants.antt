use Rattle.std.proofs.Common.{◌≡◌}
use Rattle.connections.proofs.tcp.ViewerTcpLink.write_all_kept.Given as goal

abbrev pub invariant-loop : goal.invariant-loop
invariant-loop g l = l.self.own ≡ l.initial.self.own
