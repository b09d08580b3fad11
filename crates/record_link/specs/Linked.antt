-- A link whose peer is the file of a recording (own).
use Rattle.std.specs.Prelude.{◌≡◌, ◌⊎◌, ◌≤◌, ℕ, Bool, false, not, List, [], ◌++◌, length, map, count_by}
use Rattle.byte_reading.specs.Reading.{wants_more}
use Rattle.rfb_wire.specs.Joining.{ahead}
use Rattle.link.specs.Links.{LinkState}
use Rattle.record_link.specs.Growing.{Growing, IsKept, IsIndexed, recorded_in, key_points}
use Rattle.record_link.specs.Talking.{Talk, IsSaying, SaysSoFar}

-- What contracts see of such a link: the recording that grows, what the recorder says, and how often the link has
-- failed.
pub record Linked : Type 0 where
  pub growing : Growing
  pub talk : Talk
  pub failed : ℕ

-- The bytes that were recorded, without their times.
unfoldable pub bytes_of : List (ℕ × ℕ) → List ℕ
bytes_of recorded = map (λ p. p.0) recorded

-- As a link it has taken what the recorder said, and was given what was recorded.
abbrev pub state_of : Linked → LinkState
state_of l = record { taken = l.talk.taken; given = bytes_of (recorded_in l.growing); failed = l.failed; ended = 0 }

-- In what was given the recorder has heard the handshake so far. There are at most as many key moments, the one that is
-- due included, as requests that were made for all of the screen.
pub record IsLinked (l : Linked) : Type 0 where
  pub heard : List ℕ
  pub later : List ℕ
  pub parts : bytes_of (recorded_in l.growing) ≡ heard ++ later
  pub past : (later ≡ []) ⊎ (wants_more (ahead l.talk.hello) ≡ false)
  pub kinds : List Bool
  pub says : IsSaying l.talk heard kinds
  pub keys : length (key_points l.growing) ≤ count_by not kinds

-- ---- what is promised

-- What was given is in the file's whole blocks, and then in what waits for the file. The index is one of the recording.
-- What was taken is what the recorder says, as a viewer that makes requests of these kinds; at least as many of them
-- are for all of the screen as there are key moments.
pub record IsCarried (l : Linked) : Type 0 where
  pub kept : IsKept l.growing
  pub indexed : IsIndexed l.growing
  pub kinds : List Bool
  pub said : SaysSoFar (bytes_of (recorded_in l.growing)) l.talk.taken kinds
  pub keys : length (key_points l.growing) ≤ count_by not kinds
