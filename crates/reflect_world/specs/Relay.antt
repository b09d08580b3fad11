-- Inputs on their way to the host (RFC 6143, 7.5.4 to 7.5.6).
use Rattle.std.specs.Prelude.{◌≡◌, ℕ, if◌then◌else◌, List, [], ◌∷◌, ◌++◌, length, map}
use Rattle.std.specs.List.{flat_map}
use Rattle.roles.specs.Allowed.{Input}
use Rattle.roles.specs.Held.{input_in}
use Rattle.roles.specs.Spelling.{input_bytes}
use Rattle.roles.specs.Strokes.{Taken, unbroken, passes_after, StrokesKept, StrokesStand}
use Rattle.reflect_world.specs.Schedule.{Relayed, taken_from, told_of}
use Rattle.reflect_world.specs.declared.relay.RelayedInput as declared

-- The spellings of inputs, one after another.
abbrev pub spelled : List Input → List ℕ
spelled inputs = flat_map input_bytes inputs

-- The input of a viewer for which an entry in the code stands.
abbrev pub relayed_in : declared.RelayedInput → Relayed
relayed_in entry = record { viewer = entry.viewer; input = input_in entry.input }

-- The queue, what was taken of it, and for how many more inputs there is memory.
pub record RelaySide : Type 0 where
  pub queue : List Relayed
  pub taken : List Relayed
  pub spare : ℕ

-- Which of these inputs, all of which were taken, the host is sent.
abbrev pub inputs_told : List Relayed → List Input
inputs_told taken = map (λ (it : Taken). it.input) (told_of taken)

-- The strokes stand for what was taken, with a count for each number below 65.
pub record KeepsStrokes (strokes : StrokesKept) (taken : List Relayed) : Type 0 where
  pub stands : StrokesStand strokes (map taken_from taken)
  pub counts : length strokes.counts ≡ 65

-- An input was taken after these. Its spelling was added to what the host is sent, where the input passes.
pub record Tells (taken : List Taken) (t : Taken) (strokes_new : StrokesKept) (out_old out_new : List ℕ) : Type 0 where
  pub said : out_new ≡ out_old ++ (if passes_after (unbroken taken) t then input_bytes t.input else [])
  pub stands : StrokesStand strokes_new (taken ++ t ∷ [])

-- The first of the queue was taken, if there was one.
abbrev pub takes_from : List Relayed → List Relayed → (queue taken : List Relayed) → Type 0
takes_from [] were queue taken = (queue ≡ []) × (taken ≡ were)
takes_from (first ∷ left) were queue taken = (queue ≡ left) × (taken ≡ were ++ first ∷ [])

abbrev pub TakesFirst : RelaySide → RelaySide → Type 0
TakesFirst old new = takes_from old.queue old.taken new.queue new.taken

-- These inputs, as those of this viewer.
abbrev pub relayed_of : ℕ → List Input → List Relayed
relayed_of v inputs = map (λ i. record { viewer = v; input = i }) inputs
