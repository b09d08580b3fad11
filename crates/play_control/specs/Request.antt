-- The lines of requests to a recording that is played: `pause`, `play`, or `seek` and a time.
use Rattle.std.specs.Prelude.{◌≡◌, ◌++◌, List, ℕ, codes}
use Rattle.play_control.specs.Times.{IsClockTime, IsClockText}
use Rattle.play_control.specs.declared.request.PlayRequest.{PlayRequest}
use Rattle.play_control.specs.declared.request.PlayRequest.TheVariants.{Pause, Play, Seek}

abbrev pub IsInRange : PlayRequest → Type 0
IsInRange (Seek time) = IsClockTime time
IsInRange request = Unit {0}

-- The bytes of a request's line, without its line feed.
abbrev pub Says : PlayRequest → List ℕ → Type 0
Says Pause text = text ≡ codes "pause"
Says Play text = text ≡ codes "play"
Says (Seek time) text = (said : List ℕ) × (text ≡ codes "seek " ++ said) × IsClockText said time
