-- What is counted of a run.
use Rattle.std.specs.Prelude.{ℕ, ◌+◌, ◌-◌, ◌^◌, min, true, false}
use Rattle.run_reports.specs.declared.counters.ByRole.{ByRole}
use Rattle.roles.specs.declared.role.Role.{Role}
use Rattle.roles.specs.declared.role.Role.TheVariants.{Full, View}
use Rattle.run_reports.specs.declared.event_counts.CountedEvent.{CountedEvent}
use Rattle.run_reports.specs.declared.event_counts.CountedEvent.TheVariants.{Joined, HostLeft, Came, Left, Refused}
use Rattle.run_reports.specs.declared.event_counts.EventCounts.{EventCounts}

-- The sum, or the greatest number of 64 bits where the sum is above it.
abbrev pub summed : ℕ → ℕ → ℕ
summed a b = min (a + b) (2 ^ 64 - 1)

abbrev pub more : ByRole → Role → ByRole
more n Full = record n { full = summed n.full 1 }
more n View = record n { view = summed n.view 1 }

abbrev pub fewer : ByRole → Role → ByRole
fewer n Full = record n { full = n.full - 1 }
fewer n View = record n { view = n.view - 1 }

abbrev pub none : ByRole
none = record { full = 0; view = 0 }

abbrev pub nothing : EventCounts
nothing = record {
  is_joined = false;
  joins = 0;
  viewers = none;
  came = none;
  refused = none;
}

-- What is counted once this has happened.
abbrev pub after : EventCounts → CountedEvent → EventCounts
after t Joined = record t { is_joined = true; joins = summed t.joins 1 }
after t HostLeft = record t { is_joined = false }
after t (Came role) = record t { viewers = more t.viewers role; came = more t.came role }
after t (Left role) = record t { viewers = fewer t.viewers role }
after t (Refused role) = record t { refused = more t.refused role }
