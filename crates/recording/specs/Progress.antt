-- How a recording is read on, by what its reader holds.
use Rattle.std.specs.Prelude.{◌≡◌, ℕ, ◌+◌, ◌<◌, ◌≤◌, true, false, nat_lt, if◌then◌else◌, bytes_eq, List, ◌++◌, length, take, drop, Option, Some, None, Result, Ok, Err}
use Rattle.std.specs.Int.{w32, from_be_bytes}
use Rattle.byte_reading.specs.Reading.{Reading, after, taken, wants_more}
use Rattle.recording.specs.Recording.{Block, line, padding_len}
use Rattle.recording.specs.declared.block.Block as declared
use Rattle.recording.specs.declared.bad.BadRecording.{BadRecording}
use Rattle.recording.specs.BlockReading.{Found, next_block, first_block, timed, found, going_on, blocks_in, rest_of}
use Rattle.recording.specs.declared.bad.BadRecording.TheVariants.{NotARecording, BlockTooLong}
use Rattle.recording.specs.declared.form.TheConstants.{LONGEST_READ}

-- The time of the block before, 0 before the first one, and none while the line comes; and the bytes that have come of
-- the line, or of the next block.
pub record Progress : Type 0 where
  pub last : Option ℕ
  pub begun : List ℕ

-- What is read from the beginning of the line, or of a block, on.
abbrev pub form_of : Option ℕ → Reading Found
form_of None = first_block
form_of (Some last) = next_block last

-- How a reader that holds this goes on.
abbrev pub ahead : Progress → Reading Found
ahead p = after (form_of p.last) p.begun

-- The length that a block's first four bytes tell.
abbrev pub told_len : List ℕ → ℕ
told_len begun = from_be_bytes w32 (take 4 begun)

-- At which place of a block its time begins, where its data have so many bytes.
abbrev pub time_place : ℕ → ℕ
time_place len = 4 + len + padding_len len

-- At how many bytes a block is looked at: at the end of its length, and then at its own end.
abbrev pub block_end : List ℕ → ℕ
block_end begun = if nat_lt (length begun) 4 then 4 else (if nat_lt LONGEST_READ (told_len begun) then 4 else time_place (told_len begun) + 4)

-- The same of the line, which has 12.
abbrev pub part_end : Option ℕ → List ℕ → ℕ
part_end None begun = 12
part_end (Some last) begun = block_end begun

-- No more has come than is wanted, and the line isn't whole.
pub record IsProgress (last : Option ℕ) (begun : List ℕ) : Type 0 where
  pub within : length begun ≤ part_end last begun
  pub no_line : last ≡ None → bytes_eq begun line ≡ false

-- What is known once all wanted bytes have come: that they aren't the line, or the block, or why there is none.
abbrev pub said_of : List ℕ → List ℕ
said_of begun = take (told_len begun) (drop 4 begun)

abbrev pub time_of : List ℕ → ℕ
time_of begun = from_be_bytes w32 (drop (time_place (told_len begun)) begun)

abbrev pub outcome : Option ℕ → List ℕ → Found
outcome None begun = Err NotARecording
outcome (Some last) begun = if nat_lt LONGEST_READ (told_len begun) then Err BlockTooLong else timed last (said_of begun) (time_of begun)

-- ---- what a reader does

-- The first n bytes of a piece were used, at least one where any are wanted.
pub record Uses (old new : Reading Found) (piece : List ℕ) (n : ℕ) : Type 0 where
  pub fits : n ≤ length piece
  pub goes_on : new ≡ after old (take n piece)
  pub all : taken old (take n piece) ≡ n
  pub some : wants_more old ≡ true → 0 < length piece → 0 < n

-- The block of the definitions for which a block in the code stands.
abbrev pub block_of : declared.Block → Block
block_of block = record { said = block.said.now; time = block.time }

-- What was found, in the same sense.
abbrev pub shown : Result declared.Block BadRecording → Found
shown (Ok block) = Ok (block_of block)
shown (Err bad) = Err bad

-- ---- what was read, whatever calls of the reader there were

-- The whole blocks of the bytes fed so far are those that were taken from the reader, and then the one that waits to be
-- taken, if any. The reader stands where reading these bytes leads.
pub record HasRead (fed : List ℕ) (taken_blocks : List Block) (now : Reading Found) : Type 0 where
  pub blocks : blocks_in fed ≡ taken_blocks ++ found now
  pub rest : rest_of fed ≡ going_on now
