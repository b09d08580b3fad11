use Rattle.std.proofs.Common.{◌≡◌, ℕ, List, length, None}
use Rattle.raster.specs.Update.{Update}
use Rattle.reflect_world.specs.Host.{HostStands, IsSameHost}
use Rattle.reflect_world.proofs.host.Host.next_patch.Given as goal

abbrev pub invariant-messages : goal.invariant-messages
invariant-messages l =
    record {
      none : l.self.waiting ≡ None;
      same : IsSameHost l.fn.self l.self;
      stands : (past : List Update) (bytes : List ℕ) (us : List Update) → HostStands past bytes us l.fn.self → HostStands past bytes us l.self;
    }

abbrev pub decreases-messages : goal.decreases-messages
decreases-messages l = length l.self.unread
