-- Up to which time a recording is played. Times are in milliseconds: those of a clock, and those since the recording
-- began.
use Rattle.std.specs.Prelude.{ℕ, ◌+◌, ◌-◌, ◌*◌, ◌/◌, Option, Some, None}
use Rattle.play_control.specs.declared.course.Course.{Course}

-- For how long a recording has gone on since it was last set going, where the clock now says `now`.
abbrev pub passed : Option ℕ → ℕ → ℕ
passed None now = 0
passed (Some since) now = now - since

-- Up to which time a recording is played: the time from which it goes on and, added to that, as much as has passed
-- since then, times the speed. One that rests stays where it is.
abbrev pub time_at : Course → ℕ → ℕ
time_at course now = course.from + passed course.since now * course.hundredths / 100
