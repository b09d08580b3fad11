-- Lines that are no request: `read` answers None where neither a word nor a longer request is said.
use Rattle.std.proofs.Common.{◌≡◌, List, ℕ, Option, Some, None}
use Rattle.std.specs.Prelude.{IfNone, codes}
use Rattle.play_control.specs.Times.{IsClockTime}
use Rattle.play_control.specs.Request.{IsInRange, Says}
use Rattle.play_control.specs.declared.clock_time.ClockTime.{ClockTime}
use Rattle.play_control.specs.declared.request.PlayRequest.{PlayRequest}
use Rattle.play_control.specs.declared.request.PlayRequest.TheVariants.{Pause, Play, Seek}

abbrev SeeksNothing : List ℕ → Type 0
SeeksNothing line = (time : ClockTime) → IsClockTime time → Says (Seek time) line → ⊥

says_nothing : (line : List ℕ) → (line ≡ codes "pause" → ⊥) → (line ≡ codes "play" → ⊥) → SeeksNothing line
    → (request : PlayRequest) → IsInRange request → Says request line → ⊥
says_nothing line pause play seek Pause range says = pause says
says_nothing line pause play seek Play range says = play says
says_nothing line pause play seek (Seek time) range says = seek time range says

pub no_request : (line : List ℕ) (found : Option PlayRequest) → (line ≡ codes "pause" → ⊥) → (line ≡ codes "play" → ⊥)
    → IfNone found (SeeksNothing line) → IfNone found ((request : PlayRequest) → IsInRange request → Says request line → ⊥)
no_request line (Some request) pause play seek = tt
no_request line None pause play seek = says_nothing line pause play seek
