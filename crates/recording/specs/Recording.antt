-- A recorded session in the form FBS 001.000, in which rfbproxy and VNC Reflector keep it.
use Rattle.std.specs.Prelude.{ℕ, ◌-◌, ◌%◌, ◌<◌, ◌≤◌, ◌^◌, List, [], ◌∷◌, ◌++◌, length, replicate, map}
use Rattle.std.specs.List.{flat_map}
use Rattle.std.specs.Int.{w32, to_be_bytes}
use Rattle.recording.specs.declared.form.TheConstants.{LONGEST_READ}

-- A block: bytes that a server said, and the time at which they came, in milliseconds since the recording began.
pub record Block : Type 0 where
  pub said : List ℕ
  pub time : ℕ

-- The line with which a recording begins: FBS 001.000 and a line feed.
abbrev pub line : List ℕ
line = 70 ∷ 66 ∷ 83 ∷ 32 ∷ 48 ∷ 48 ∷ 49 ∷ 46 ∷ 48 ∷ 48 ∷ 48 ∷ 10 ∷ []

-- How many bytes of padding follow so many bytes of data: as few as make them a multiple of four.
abbrev pub padding_len : ℕ → ℕ
padding_len n = (4 - n % 4) % 4

-- A block: the length of its data, which doesn't count the padding, the data, padding of zeros, and the time.
unfoldable pub block_bytes : Block → List ℕ
block_bytes b = to_be_bytes w32 (length b.said) ++ (b.said ++ (replicate (padding_len (length b.said)) 0 ++ to_be_bytes w32 b.time))

-- All blocks, one after another.
abbrev pub blocks_bytes : List Block → List ℕ
blocks_bytes blocks = flat_map block_bytes blocks

-- A recording: the line, and the blocks.
unfoldable pub recording_bytes : List Block → List ℕ
recording_bytes blocks = line ++ blocks_bytes blocks

-- What is said in blocks, in order, each byte with its time.
abbrev pub said_in : List Block → List (ℕ × ℕ)
said_in blocks = flat_map (λ b. map (λ byte. (byte, b.time)) b.said) blocks

-- Each block after this time has data within the reader's bound, and a time that isn't before that of the block before.
abbrev pub AreBlocksAfter : ℕ → List Block → Type 0
AreBlocksAfter last [] = Unit {0}
AreBlocksAfter last (b ∷ blocks) = (length b.said ≤ LONGEST_READ) × (last ≤ b.time) × (b.time < 2 ^ 32) × AreBlocksAfter b.time blocks

-- The time of the last of these blocks, which follow one of the time last.
abbrev pub last_time : ℕ → List Block → ℕ
last_time last [] = last
last_time last (b ∷ blocks) = last_time b.time blocks

-- The blocks of a whole recording.
abbrev pub AreBlocks : List Block → Type 0
AreBlocks blocks = AreBlocksAfter 0 blocks
