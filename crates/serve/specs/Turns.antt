-- Which of several hosts has its turn, by number: the first host has 0, and those that follow on it have the next
-- numbers.
use Rattle.std.specs.Prelude.{◌≡◌, ◌⊎◌, ◌≤◌, Bool, Option, Some, None, ℕ, ◌+◌, if◌then◌else◌, is_some, nat_lt, option_map, true}
use Rattle.settings.specs.declared.values.Settings.{Settings}
use Rattle.serve.specs.declared.turns.Turns.{Turns}

-- The next of the hosts that follow on the first, if there is one that had no turn.
abbrev pub following : Turns → Option ℕ
following turns = if nat_lt turns.done turns.further then Some (turns.done + 1) else None

-- The host that has its turn next: one that follows on the first, or after all of them the first again, if there is a
-- pause after which it is tried again.
abbrev pub turn_of : Turns → Option ℕ
turn_of turns = next_or (following turns)
  where
    next_or : Option ℕ → Option ℕ
    next_or (Some number) = Some number
    next_or None = option_map (λ _. 0) turns.again

-- No host is left: each of them had its turn, and the first is to have no other.
abbrev pub HadAllTurns : Turns → Type 0
HadAllTurns turns = (turns.again ≡ None) × (turns.further ≤ turns.done)

-- The pause after which the first host has its turn again, whatever is asked. There is none where the run may be asked
-- to stop.
abbrev pub endless : Bool → Option ℕ → Option ℕ
endless may_be_stopped again = if may_be_stopped then None else again

-- A run by these settings may end well: its first host has only one turn, or an operator may stop it.
abbrev pub MayEnd : Settings → Type 0
MayEnd settings = (settings.again ≡ None) ⊎ (is_some settings.control ≡ true)
