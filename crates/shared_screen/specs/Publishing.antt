-- What contracts see of a publisher.
use Rattle.std.specs.Prelude.{◌≡◌, ◌⊎◌, [], ◌∷◌, List, length, drop}
use Rattle.fault.specs.declared.kinds.Fault.{Fault}
use Rattle.fault.specs.declared.kinds.Fault.TheVariants.{Memory}
use Rattle.raster.specs.Update.{Update}
use Rattle.shared_screen.specs.History.{Change, puts_of}

-- What a publisher has put and raised, and behind that the update whose publish was refused, where there is one: the
-- history has it, and the tally was never raised to it (own).
pub record Publishing : Type 0 where
  pub changes : List Change
  pub refused : List Update

-- A publisher that has put and raised these changes of a history, and knows all that the history has.
abbrev pub publishing : List Change → List Change → Publishing
publishing changes all = record { changes = changes; refused = drop (length (puts_of changes)) (puts_of all) }

-- A publisher that has done nothing.
abbrev pub opening : Publishing
opening = record { changes = []; refused = [] }

-- What a refused put of this update, for this fault, may leave of a publisher: all as it was, or where memory is
-- refused the update stays behind what was put, if none did before.
abbrev pub IsLeftByRefusal : Update → Fault → (old new : Publishing) → Type 0
IsLeftByRefusal u fault old new =
    (new ≡ old) ⊎ ((fault ≡ Memory) × (old.refused ≡ []) × (new ≡ record old { refused = u ∷ [] }))
