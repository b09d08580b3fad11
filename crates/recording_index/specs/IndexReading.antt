-- How an index is read: its line, and then whole entries, in which neither time nor place goes back.
use Rattle.std.specs.Prelude.{◌≡◌, ℕ, zero, suc, ◌<◌, ◌≤◌, ◌/◌, Bool, nat_lt, if◌then◌else◌, bytes_eq, List, [], ◌∷◌, ◌++◌, length, take, drop, Option, Some, None, All}
use Rattle.std.specs.Int.{w32, w64, from_be_bytes}
use Rattle.recording_index.specs.IndexBytes.{line, start}
use Rattle.recording_index.specs.declared.bad.BadIndex.{BadIndex}
use Rattle.recording_index.specs.declared.bad.BadIndex.TheVariants.{NotAnIndex, TimeGoesBack, PlaceGoesBack}
use Rattle.recording_index.specs.declared.moment.KeyMoment.{KeyMoment}

-- The key moment that the first twelve of these bytes spell.
unfoldable pub moment_of : List ℕ → KeyMoment
moment_of bytes = record { time = from_be_bytes w32 (take 4 bytes); place = from_be_bytes w64 (take 8 (drop 4 bytes)) }

-- Those that the first so many entries of these bytes spell.
abbrev pub moments_of : ℕ → List ℕ → List KeyMoment
moments_of zero bytes = []
moments_of (suc n) bytes = moment_of bytes ∷ moments_of n (drop 12 bytes)

-- Those of all entries that are whole. What follows them is an entry that was cut off.
abbrev pub all_in : List ℕ → List KeyMoment
all_in entries = moments_of (length entries / 12) entries

-- The key moments of an index: those of the entries that follow its line.
unfoldable pub moments_in : List ℕ → List KeyMoment
moments_in bytes = all_in (drop 12 bytes)

-- ---- what is refused

-- Why the second of two key moments can't follow the first.
abbrev pub fault_at : KeyMoment → KeyMoment → Option BadIndex
fault_at before m = if nat_lt m.time before.time then Some TimeGoesBack else (if nat_lt m.place before.place then Some PlaceGoesBack else None)

-- The first fault.
abbrev pub first_of : Option BadIndex → Option BadIndex → Option BadIndex
first_of (Some bad) later = Some bad
first_of None later = later

-- The first fault of key moments, where this one is before them.
abbrev pub fault_after : KeyMoment → List KeyMoment → Option BadIndex
fault_after before [] = None
fault_after before (m ∷ moments) = first_of (fault_at before m) (fault_after m moments)

-- The bytes begin with the line, or were cut off within it.
unfoldable pub begins_as_line : List ℕ → Bool
begins_as_line bytes = bytes_eq (take 12 bytes) (take (length bytes) line)

-- The first fault of an index.
unfoldable pub fault_in : List ℕ → Option BadIndex
fault_in bytes = if begins_as_line bytes then fault_after start (moments_in bytes) else Some NotAnIndex

-- ---- looking one up

-- The last key moment that isn't later than this time; none where all are later.
abbrev pub IsLastAt : List KeyMoment → ℕ → Option KeyMoment → Type 0
IsLastAt moments time None = All (λ m. time < m.time) moments
IsLastAt moments time (Some found) = (earlier later : List KeyMoment) × (moments ≡ earlier ++ found ∷ later) × (found.time ≤ time) × All (λ m. time < m.time) later
