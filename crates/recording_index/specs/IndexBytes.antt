-- The index of a recorded session, in the form FBI 001.000 (own).
use Rattle.std.specs.Prelude.{ℕ, ◌<◌, ◌≤◌, ◌^◌, List, [], ◌∷◌, ◌++◌}
use Rattle.std.specs.List.{flat_map}
use Rattle.std.specs.Int.{w32, w64, to_be_bytes}
use Rattle.recording_index.specs.declared.moment.KeyMoment.{KeyMoment}

-- The line with which an index begins: FBI 001.000 and a line feed.
abbrev pub line : List ℕ
line = 70 ∷ 66 ∷ 73 ∷ 32 ∷ 48 ∷ 48 ∷ 49 ∷ 46 ∷ 48 ∷ 48 ∷ 48 ∷ 10 ∷ []

-- The entry of a key moment: its time, and its place.
unfoldable pub entry_bytes : KeyMoment → List ℕ
entry_bytes m = to_be_bytes w32 m.time ++ to_be_bytes w64 m.place

-- All entries, one after another.
abbrev pub entries_bytes : List KeyMoment → List ℕ
entries_bytes moments = flat_map entry_bytes moments

-- An index: the line, and the entries.
unfoldable pub index_bytes : List KeyMoment → List ℕ
index_bytes moments = line ++ entries_bytes moments

-- Neither time nor place goes back from one key moment to the next, nor from this one to the first; and an entry has
-- room for each.
abbrev pub AreMomentsAfter : KeyMoment → List KeyMoment → Type 0
AreMomentsAfter before [] = Unit {0}
AreMomentsAfter before (m ∷ moments) = (before.time ≤ m.time) × (before.place ≤ m.place) × (m.time < 2 ^ 32) × (m.place < 2 ^ 64) × AreMomentsAfter m moments

-- The beginning of a recording.
abbrev pub start : KeyMoment
start = record { time = 0; place = 0 }

-- The key moments of a whole index.
abbrev pub AreMoments : List KeyMoment → Type 0
AreMoments moments = AreMomentsAfter start moments
