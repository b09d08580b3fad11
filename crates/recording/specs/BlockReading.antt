-- How a recording is read: its line, and then block after block. No block's time may be before that of the block before
-- it.
use Rattle.std.specs.Prelude.{ℕ, nat_lt, if◌then◌else◌, bytes_eq, List, [], ◌∷◌, ◌++◌, Result, Ok, Err}
use Rattle.byte_reading.specs.Reading.{Reading, Done, Faulty, Want, ◌>>=◌, step, bytes, padding, u32}
use Rattle.recording.specs.Recording.{Block, line, padding_len}
use Rattle.recording.specs.declared.bad.BadRecording.{BadRecording}
use Rattle.recording.specs.declared.bad.BadRecording.TheVariants.{NotARecording, BlockTooLong, TimeGoesBack}
use Rattle.recording.specs.declared.form.TheConstants.{LONGEST_READ}

-- A block, or why the recording can't be read on. Padding isn't looked at.
abbrev pub Found : Type 0
Found = Result Block BadRecording

-- A block of these data at this time, where the block before has the time `last`.
abbrev pub timed : ℕ → List ℕ → ℕ → Found
timed last said time = if nat_lt time last then Err TimeGoesBack else Ok (record { said = said; time = time })

-- What follows a length: data, padding and the time.
abbrev pub body : ℕ → ℕ → Reading Found
body last len = bytes len >>= λ said. padding (padding_len len) (u32 >>= λ time. Done (timed last said time))

-- The same where the length is at most the reader's bound.
abbrev pub bounded_body : ℕ → ℕ → Reading Found
bounded_body last len = if nat_lt LONGEST_READ len then Done (Err BlockTooLong) else body last len

-- A block, after one of the time last.
unfoldable pub next_block : ℕ → Reading Found
next_block last = u32 >>= bounded_body last

-- The line, and then the first block, at any time.
unfoldable pub first_block : Reading Found
first_block = bytes 12 >>= λ field. if bytes_eq field line then next_block 0 else Done (Err NotARecording)

-- ---- a whole recording

-- The block that was read whole, as a list.
abbrev pub found : Reading Found → List Block
found (Done (Ok block)) = block ∷ []
found (Done (Err bad)) = []
found (Faulty fault) = []
found (Want more) = []

-- How reading goes on: after a whole block with the next one. Where the recording can't be read on, that stays so.
abbrev pub going_on : Reading Found → Reading Found
going_on (Done (Ok block)) = next_block block.time
going_on (Done (Err bad)) = Done (Err bad)
going_on (Faulty fault) = Faulty fault
going_on (Want more) = Want more

-- The blocks that are whole in these bytes, in order, where reading stands at `now` before them.
abbrev pub blocks_from : Reading Found → List ℕ → List Block
blocks_from now [] = []
blocks_from now (b ∷ bs) = found (step now b) ++ blocks_from (going_on (step now b)) bs

-- How reading stands after these bytes: inside a block, or at why the recording can't be read on.
abbrev pub rest_from : Reading Found → List ℕ → Reading Found
rest_from now [] = now
rest_from now (b ∷ bs) = rest_from (going_on (step now b)) bs

-- The whole blocks with which the bytes of a file begin, wherever it is cut off.
unfoldable pub blocks_in : List ℕ → List Block
blocks_in stream = blocks_from first_block stream

-- How reading goes on after these bytes.
unfoldable pub rest_of : List ℕ → Reading Found
rest_of stream = rest_from first_block stream
