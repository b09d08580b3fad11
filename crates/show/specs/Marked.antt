-- A link to a recording whose state tells how it is played (own).
use Rattle.std.specs.Prelude.{◌+◌, ℕ, ◌∷◌, Option, Some, None}
use Rattle.link.specs.Links.{LinkState}
use Rattle.playback.specs.Playing.{Played, state_of}

-- A number for each time or place, and for none.
abbrev pub mark : Option ℕ → ℕ
mark None = 0
mark (Some number) = number + 1

-- The state, with two numbers before all that was taken.
abbrev pub marked : (until key : Option ℕ) → LinkState → LinkState
marked until key link = record link { taken = mark until ∷ mark key ∷ link.taken }

-- The two tell up to which time the recording is played, and from which place on.
abbrev pub marked_state : Played → LinkState
marked_state p = marked p.until p.key (state_of p)
