use Rattle.std.proofs.Common.{◌≡◌, ◌≤◌, ◌^◌, ◌++◌, length}
use Rattle.web_link.specs.Web.{Carries}
use Rattle.web_link.proofs.web.WebLink.send_unsent.Given as goal

abbrev pub invariant-loop-self : goal.invariant-loop-self
invariant-loop-self g l = record {
  failures : l.self-inside.failures ≤ 2 ^ 62;
  ends : l.self-inside.ends ≤ 2 ^ 62;
  carries : Carries (record { wire = g.L.Link.state l.self-inside.link; carried = record { taken = l.self-inside.taken.bytes; given = l.self-inside.given.bytes; failed = l.self-inside.failures; ended = l.self-inside.ends }; reader = l.self-inside.reader; unsent = l.self-inside.unsent; saying = l.self-inside.saying });
  same : record { taken = l.self-inside.taken.bytes; given = l.self-inside.given.bytes; failed = l.self-inside.failures; ended = l.self-inside.ends } ≡ l.fn.self.carried;
  saying : l.self-inside.saying ≡ l.fn.self.saying;
  reader : l.self-inside.reader ≡ l.fn.self.reader;
  said : (g.L.Link.state l.self-inside.link).given ++ l.self-inside.unsent ≡ l.fn.self.wire.given ++ l.fn.self.unsent;
}

abbrev pub decreases-loop-self : goal.decreases-loop-self
decreases-loop-self g l = length l.self-inside.unsent
