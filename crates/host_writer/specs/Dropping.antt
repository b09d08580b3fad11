-- How many of the inputs that were taken from the relay are dropped, and so never told to a host (own).
use Rattle.std.specs.Prelude.{◌≡◌, ℕ, ◌-◌, min, List, length, map}
use Rattle.fault.specs.declared.limits.TheConstants.{LIMIT}
use Rattle.roles.specs.Strokes.{Taken, unbroken, StrokesKept, StrokesStand}
use Rattle.input_relay.specs.declared.queue.Message.{Message}
use Rattle.host_writer.specs.Writing.{taken_from}

-- How many inputs of all places are dropped: the number of those taken less the number of those that pass. A count at
-- LIMIT stays there.
abbrev pub all_dropped : List Taken → ℕ
all_dropped taken = min LIMIT (length taken - length (unbroken taken))

-- The strokes stand for all inputs that were taken from the relay, and this number is how many of these were dropped.
pub record IsCounted (taken : List Message) (strokes : StrokesKept) (number : ℕ) : Type 0 where
  pub stands : StrokesStand strokes (map taken_from taken)
  pub counted : number ≡ all_dropped (map taken_from taken)
