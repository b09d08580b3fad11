-- What writing puts into the room that it is given.
use Rattle.std.specs.Prelude.{◌≡◌, ℕ, ◌<◌, ◌≤◌, List, length, take, Option, MatchOption}

-- A buffer begins with these bytes, which end at index n, before its end.
pub record IsPut (bytes before now : List ℕ) (n : ℕ) : Type 0 where
  pub end : n ≡ length bytes
  pub inside : n < length before
  pub front : take n now ≡ bytes

-- These bytes were put at the front of a buffer, and the answer is where they end; or they don't end inside the buffer.
abbrev pub Puts : List ℕ → List ℕ → List ℕ → Option ℕ → Type 0
Puts bytes before now answer = MatchOption answer (length before ≤ length bytes) (IsPut bytes before now)
