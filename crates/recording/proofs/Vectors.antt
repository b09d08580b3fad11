-- The definitions compute values that were worked by hand. A definition that says something else is refused here.
use Rattle.std.proofs.Common.{◌≡◌, ℕ, List, [], ◌∷◌, ◌++◌, refl}
use Rattle.std.specs.Prelude.{Some, None, Err, take}
use Rattle.byte_reading.specs.Reading.{whole_of}
use Rattle.recording.specs.Recording.{Block, line, block_bytes, recording_bytes, said_in}
use Rattle.recording.specs.BlockReading.{next_block, first_block, blocks_in, rest_of}
use Rattle.recording.specs.declared.bad.BadRecording.TheVariants.{NotARecording, BlockTooLong, TimeGoesBack}

abbrev block : List ℕ → ℕ → Block
block said time = record { said = said; time = time }

-- Five bytes at 258 milliseconds, and four at 259: the length doesn't count the padding.
abbrev two_blocks : List Block
two_blocks = block (1 ∷ 2 ∷ 3 ∷ 4 ∷ 5 ∷ []) 258 ∷ block (6 ∷ 7 ∷ 8 ∷ 9 ∷ []) 259 ∷ []

abbrev first_bytes : List ℕ
first_bytes = 0 ∷ 0 ∷ 0 ∷ 5 ∷ 1 ∷ 2 ∷ 3 ∷ 4 ∷ 5 ∷ 0 ∷ 0 ∷ 0 ∷ 0 ∷ 0 ∷ 1 ∷ 2 ∷ []

abbrev second_bytes : List ℕ
second_bytes = 0 ∷ 0 ∷ 0 ∷ 4 ∷ 6 ∷ 7 ∷ 8 ∷ 9 ∷ 0 ∷ 0 ∷ 1 ∷ 3 ∷ []

pub two_are_spelled : recording_bytes two_blocks ≡ line ++ (first_bytes ++ second_bytes)
unfolding recording_bytes block_bytes
two_are_spelled = refl

pub two_are_read : blocks_in (line ++ (first_bytes ++ second_bytes)) ≡ two_blocks
unfolding blocks_in first_block next_block
two_are_read = refl

-- Cut off in the second block's time, there is the first.
pub cut_off_is_read : blocks_in (take 39 (line ++ (first_bytes ++ second_bytes))) ≡ block (1 ∷ 2 ∷ 3 ∷ 4 ∷ 5 ∷ []) 258 ∷ []
unfolding blocks_in first_block next_block
cut_off_is_read = refl

-- A block without data, and padding that isn't zeros.
pub empty_is_read : blocks_in (line ++ (0 ∷ 0 ∷ 0 ∷ 0 ∷ 0 ∷ 0 ∷ 0 ∷ 1 ∷ 0 ∷ 0 ∷ 0 ∷ 3 ∷ 1 ∷ 2 ∷ 3 ∷ 255 ∷ 0 ∷ 0 ∷ 0 ∷ 1 ∷ [])) ≡ block [] 1 ∷ block (1 ∷ 2 ∷ 3 ∷ []) 1 ∷ []
unfolding blocks_in first_block next_block
empty_is_read = refl

-- Why a recording can't be read on, and at which byte.
pub time_goes_back : whole_of (rest_of (line ++ (second_bytes ++ first_bytes))) ≡ Some (Err TimeGoesBack)
unfolding rest_of first_block next_block
time_goes_back = refl

pub before_it_there_is_one : blocks_in (line ++ (second_bytes ++ first_bytes)) ≡ block (6 ∷ 7 ∷ 8 ∷ 9 ∷ []) 259 ∷ []
unfolding blocks_in first_block next_block
before_it_there_is_one = refl

pub too_long : whole_of (rest_of (line ++ (1 ∷ 0 ∷ 0 ∷ 1 ∷ []))) ≡ Some (Err BlockTooLong)
unfolding rest_of first_block next_block
too_long = refl

pub longest_isnt : whole_of (rest_of (line ++ (1 ∷ 0 ∷ 0 ∷ 0 ∷ []))) ≡ None
unfolding rest_of first_block next_block
longest_isnt = refl

-- FBS 001.001
pub other_version : whole_of (rest_of (70 ∷ 66 ∷ 83 ∷ 32 ∷ 48 ∷ 48 ∷ 49 ∷ 46 ∷ 48 ∷ 48 ∷ 49 ∷ 10 ∷ [])) ≡ Some (Err NotARecording)
unfolding rest_of first_block next_block
other_version = refl

-- Each byte has the time of its block.
pub each_has_its_time : said_in (block (1 ∷ 2 ∷ []) 5 ∷ block (3 ∷ []) 7 ∷ []) ≡ (1, 5) ∷ (2, 5) ∷ (3, 7) ∷ []
each_has_its_time = refl
