-- What a viewer that takes new sizes knows of the host's screen at each answer (RFC 6143, 7.8.2; own).
use Rattle.std.specs.Prelude.{◌≡◌, ℕ, true, List, Option, Some}
use Rattle.raster.specs.declared.size.Size.{Size}
use Rattle.raster.specs.Update.{Update, last_size}
use Rattle.viewer_session.specs.Record.{Entry, choice_of}
use Rattle.viewer_session.specs.Turn.{host_size, told_of}

-- After these entries, where viewers are told of sizes and this one takes them, it was told the size of the host's
-- screen after these updates.
abbrev pub KnowsSize : ℕ → ℕ → Option Size → List Update → List Entry → Type 0
KnowsSize w h host us entries =
    (first : Size) → host ≡ Some first → (choice_of entries).resizes ≡ true → told_of w h entries ≡ host_size w h first (last_size us)
