-- The file of an index (own).
use Rattle.std.specs.Prelude.{◌≡◌, ℕ, List}
use Rattle.recording.specs.Recording.{Block}
use Rattle.recording.specs.BlockReading.{blocks_in}
use Rattle.recording_index.specs.IndexBytes.{index_bytes}
use Rattle.recording_index.specs.declared.moment.KeyMoment.{KeyMoment}
use Rattle.rebuilt_index.specs.Anew.{AreKeyMoments}

-- The bytes are the index with key moments of a recording of these blocks.
pub record IsIndexFile (blocks : List Block) (bytes : List ℕ) : Type 0 where
  pub moments : List KeyMoment
  pub are : AreKeyMoments moments blocks
  pub spelled : bytes ≡ index_bytes moments

-- Its bytes are in a file, of which this fact says what it has.
pub record IsWritten (has : List ℕ → Type 0) (read : List ℕ) : Type 0 where
  pub index : List ℕ
  pub is : IsIndexFile (blocks_in read) index
  pub written : has index
