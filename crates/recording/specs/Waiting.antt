-- What a writer of a recording holds: a block that isn't written yet.
use Rattle.std.specs.Prelude.{◌≡◌, ℕ, ◌-◌, ◌==◌, ◌||◌, ◌<◌, ◌≤◌, ◌^◌, map, if◌then◌else◌, List, [], ◌∷◌, ◌++◌, length, drop}
use Rattle.recording.specs.Recording.{Block, AreBlocks, last_time, said_in}
use Rattle.recording.specs.declared.form.TheConstants.{LONGEST_WRITTEN}

-- How many more bytes go into the block that waits, if they come at this time. All bytes of a block have one time.
abbrev pub room : Block → ℕ → ℕ
room waiting time = if length waiting.said == 0 || waiting.time == time then LONGEST_WRITTEN - length waiting.said else 0

-- The block with these bytes at its end, which came at this time.
abbrev pub with_more : Block → ℕ → List ℕ → Block
with_more waiting time [] = waiting
with_more waiting time (b ∷ bs) = record { said = waiting.said ++ (b ∷ bs); time = time }

-- The block that waits, as a list: there is none where it has no data.
abbrev pub as_blocks : Block → List Block
as_blocks waiting = if length waiting.said == 0 then [] else waiting ∷ []

-- The spelling stands at the front, what followed it stays, and the count is the spelling's length.
pub record Writes (spelling old new : List ℕ) (count : ℕ) : Type 0 where
  pub written : new ≡ spelling ++ drop (length spelling) old
  pub count_is : count ≡ length spelling

-- ---- what was recorded, whatever calls of the writer there were

-- The bytes, each with this time.
abbrev pub stamp : ℕ → List ℕ → List (ℕ × ℕ)
stamp time bytes = map (λ byte. (byte, time)) bytes

-- So far these blocks were spelled, this block waits, and this was given, each byte with its time: all of it is in the
-- blocks and in the one that waits, in order. The blocks are those of a recording, and one that waits may follow them.
pub record IsRecorded (blocks : List Block) (waiting : Block) (given : List (ℕ × ℕ)) : Type 0 where
  pub in_order : AreBlocks blocks
  pub follows : last_time 0 blocks ≤ waiting.time
  pub fits : waiting.time < 2 ^ 32
  pub short : length waiting.said ≤ LONGEST_WRITTEN
  pub said : said_in blocks ++ stamp waiting.time waiting.said ≡ given
