-- Times of a recording, as they are written: HH:MM:SS.
use Rattle.std.specs.Prelude.{◌≡◌, ℕ, ◌+◌, ◌*◌, ◌/◌, ◌%◌, ◌<◌, List, length, slice_index}
use Rattle.play_control.specs.declared.clock_time.ClockTime.{ClockTime}

-- These two bytes are a number below 100 in decimal digits, the tens first.
abbrev pub IsTwo : (tens ones : ℕ) → ℕ → Type 0
IsTwo tens ones n = (tens ≡ 48 + n / 10) × (ones ≡ 48 + n % 10)

abbrev pub IsClockTime : ClockTime → Type 0
IsClockTime t = (t.hours < 100) × (t.minutes < 60) × (t.seconds < 60)

-- The text is this time: hours, minutes and seconds of two digits each, with colons between them.
pub record IsClockText (text : List ℕ) (t : ClockTime) : Type 0 where
  pub len : length text ≡ 8
  pub hours : IsTwo (slice_index text 0) (slice_index text 1) t.hours
  pub colon : slice_index text 2 ≡ 58
  pub minutes : IsTwo (slice_index text 3) (slice_index text 4) t.minutes
  pub second_colon : slice_index text 5 ≡ 58
  pub seconds : IsTwo (slice_index text 6) (slice_index text 7) t.seconds

-- In milliseconds.
abbrev pub millis_of : ClockTime → ℕ
millis_of t = ((t.hours * 60 + t.minutes) * 60 + t.seconds) * 1000
