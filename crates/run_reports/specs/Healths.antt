-- What a balancer is told.
use Rattle.std.specs.Prelude.{ℕ, Bool, true, false, List, ◌&&◌, nat_le, codes, Option, None, Some}
use Rattle.run_reports.specs.declared.counters.Counters.{Counters}
use Rattle.roles.specs.declared.role.Role.{Role}
use Rattle.roles.specs.declared.role.Role.TheVariants as of
use Rattle.run_reports.specs.declared.health.Health.{Health}
use Rattle.run_reports.specs.declared.health.Health.TheVariants.{Ready, NoHost, Drained, Full}

-- No place of the role is free.
abbrev pub is_taken : Counters → Role → Bool
is_taken c of.Full = nat_le c.places.full c.viewers.full
is_taken c of.View = nat_le c.places.view c.viewers.view

-- No place of this role is free; or, where no role is named, no place of either role.
abbrev pub is_full : Counters → Option Role → Bool
is_full c None = is_taken c of.Full && is_taken c of.View
is_full c (Some role) = is_taken c role

abbrev pub where_joined : Bool → Bool → Health
where_joined true full = Drained
where_joined false true = Full
where_joined false false = Ready

abbrev pub where_host : Bool → Bool → Bool → Health
where_host false drained full = NoHost
where_host true drained full = where_joined drained full

-- The first that is true of these: there is no host; nobody is let in; no place is free; a viewer would be served.
abbrev pub health_for : Counters → Bool → Option Role → Health
health_for c is_drained role = where_host c.is_joined is_drained (is_full c role)

abbrev pub word_for : Health → List ℕ
word_for Ready = codes "ready\n"
word_for NoHost = codes "no host\n"
word_for Drained = codes "drained\n"
word_for Full = codes "full\n"
