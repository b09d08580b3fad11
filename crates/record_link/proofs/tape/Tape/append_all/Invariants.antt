use Rattle.std.proofs.Common.{◌≡◌, true, []}
use Rattle.record_link.proofs.tape.Tape.append_all.Given as goal

abbrev pub invariant-loop : goal.invariant-loop
invariant-loop g l = (l.self.spelled ≡ l.initial.self.spelled) × (l.initial.self.unsent ≡ [] → l.self ≡ l.initial.self) × (l.initial.self.is_broken ≡ true → l.self ≡ l.initial.self)
