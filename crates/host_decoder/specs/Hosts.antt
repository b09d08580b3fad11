-- The updates of several hosts, one after the other (own).
use Rattle.std.specs.Prelude.{ℕ, List, [], ◌∷◌, ◌++◌}
use Rattle.std.specs.List.{flat_map}
use Rattle.raster.specs.Switch.{switch}
use Rattle.raster.specs.Update.{Update}
use Rattle.host_decoder.specs.Updates.{updates}

-- The updates in the bytes of hosts that have ended, over a screen of w by h, which is as large as that of each host:
-- after those of each the screen is switched to black. Bytes after the last whole message of a host give no update.
abbrev pub ended_updates : ℕ → ℕ → List (List ℕ) → List Update
ended_updates w h ended = flat_map (λ stream. updates w h stream ++ switch w h ∷ []) ended

-- The same, followed by the updates in the bytes of the present host.
abbrev pub updates_in_turn : ℕ → ℕ → List (List ℕ) → List ℕ → List Update
updates_in_turn w h ended present = ended_updates w h ended ++ updates w h present
