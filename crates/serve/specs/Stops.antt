-- How a supply of hosts comes to its end, and how a host is left for the next one (own).
use Rattle.std.specs.Prelude.{◌≡◌, ◌⊎◌, Bool, false, Option, is_some, true}
use Rattle.run_control.specs.declared.request.Request.{Request}
use Rattle.run_control.specs.declared.request.Request.TheVariants.{Next, Stop}
use Rattle.serve.specs.Turns.{HadAllTurns}
use Rattle.serve.specs.declared.turns.Turns.{Turns}

-- No host is left, or the run was seen to be stopped, which only an operator with a lifeline can do.
abbrev pub IsOut : {A B : Type 0} → Turns → Option A → Option B → Type 0
IsOut turns stopped lifeline = HadAllTurns turns ⊎ ((is_some stopped ≡ true) × (is_some lifeline ≡ true))

-- The request asks that the run ends.
abbrev pub asks_to_stop : Request → Bool
asks_to_stop Stop = true
asks_to_stop request = false

-- The request asks that the next host has its turn.
abbrev pub asks_for_next : Request → Bool
asks_for_next Next = true
asks_for_next request = false
