-- What the parts of a writer append.
use Rattle.std.specs.Prelude.{◌≡◌, ℕ, List, ◌++◌}
use Rattle.std.specs.List.{flat_map}
use Rattle.zrle_codec.specs.Tiles.{Run, AreRuns, run_shows}

-- The bytes begin with the old ones, also where memory was refused while more were appended.
pub record BeginsWith (old new : List ℕ) : Type 0 where
  pub more : List ℕ
  pub are : new ≡ old ++ more

-- Behind the old bytes stand runs, each spelled, that draw these values.
pub record AppendsRuns (spelled : Run → List ℕ) (old new values : List ℕ) : Type 0 where
  pub runs : List Run
  pub some : AreRuns runs
  pub shows : flat_map run_shows runs ≡ values
  pub appended : new ≡ old ++ flat_map spelled runs
