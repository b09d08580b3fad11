-- A run's numbers, of what was counted, and what a machine is told of them (own).
use Rattle.std.specs.Prelude.{◌≡◌, ◌+◌, ◌-◌, ◌*◌, ◌/◌, Bool, true, false, not, is_some, length, List, map, ℕ, slice_index}
use Rattle.std.specs.List.{filter}
use Rattle.std.specs.List.Sorted.{IsPermutation, IsSorted}
use Rattle.std.specs.Ordering.{nat_cmp}
use Rattle.roles.specs.declared.role.Role.{Role}
use Rattle.roles.specs.declared.role.Role.TheVariants.{Full, View}
use Rattle.run_control.specs.Doors.{is_open}
use Rattle.run_reports.specs.declared.counters.ByRole.{ByRole}
use Rattle.run_reports.specs.declared.counters.Counters.{Counters}
use Rattle.run_reports.specs.declared.counters.Lag.{Lag}
use Rattle.run_reports.specs.declared.counters.RecordingCounts.{RecordingCounts}
use Rattle.recorder.specs.declared.standing.Standing.{Standing}
use Rattle.recorder.specs.declared.standing.Standing.TheVariants.{Awaited, Begun, Ended, Failed}
use Rattle.run_reports.specs.declared.event_counts.EventCounts.{EventCounts}
use Rattle.settings.specs.ByRole.{places_for}
use Rattle.settings.specs.declared.values.Settings.{Settings}
use Rattle.metrics_site.specs.declared.watched.Watched.{Watched}
use Rattle.connections.specs.declared.desk.RunCard.{RunCard}
use Rattle.connections.specs.declared.desk.ViewerCard.{ViewerCard}
use Rattle.serve.specs.declared.counters.Inputs.{Inputs}
use Rattle.serve.specs.States.{seconds_from}

-- As many places of each role as the settings say.
abbrev pub places_by_role : Settings → ByRole
places_by_role settings = record { full = places_for Full settings; view = places_for View settings }

abbrev pub is_role : Role → Role → Bool
is_role Full Full = true
is_role View View = true
is_role Full View = false
is_role View Full = false

-- How many of these viewers are of a role.
abbrev pub viewers_of : Role → List ViewerCard → ℕ
viewers_of role viewers = length (filter (λ viewer. is_role role viewer.comer.role) viewers)

abbrev pub viewers_by_role : List ViewerCard → ByRole
viewers_by_role viewers = record { full = viewers_of Full viewers; view = viewers_of View viewers }

-- By how many of the run's updates each viewer is behind: by those that it wasn't shown.
abbrev pub updates_behind : RunCard → List ℕ
updates_behind run_card = map (λ viewer. run_card.updates - viewer.shown) run_card.viewers.items

-- Of numbers that are in order, the first that so many tenths of them don't exceed; 0 where there are none.
abbrev pub tenths_of : List ℕ → ℕ → ℕ
tenths_of ordered tenths = slice_index ordered ((length ordered * tenths + 9) / 10 - 1)

-- Numbers that half of these, nine in ten of them and all of them don't exceed.
pub record IsLag (numbers : List ℕ) (lag : Lag) : Type 0 where
  pub ordered : List ℕ
  pub same : IsPermutation numbers ordered
  pub in_order : IsSorted nat_cmp ordered
  pub half : lag.half ≡ tenths_of ordered 5
  pub nine_tenths : lag.nine_tenths ≡ tenths_of ordered 9
  pub all : lag.all ≡ tenths_of ordered 10

-- What is counted of a recording that stands so, whose file took so many bytes.
abbrev pub recorded_as : Standing → ℕ → RecordingCounts
recorded_as Awaited bytes = record { is_on = false; start_seconds = 0; has_failed = false; bytes = bytes }
recorded_as (Begun began) bytes = record { is_on = true; start_seconds = began.epoch_seconds; has_failed = false; bytes = bytes }
recorded_as Ended bytes = record { is_on = false; start_seconds = 0; has_failed = false; bytes = bytes }
recorded_as (Failed kind) bytes = record { is_on = false; start_seconds = 0; has_failed = true; bytes = bytes }

-- The numbers of a run that stands so, in which that has happened. It has these places, so many inputs of viewers wait
-- and were dropped, and that is counted of its recording.
pub record AreCounters (run_card : RunCard) (counts : EventCounts) (places : ByRole) (inputs : Inputs) (recorded : RecordingCounts) (counters : Counters) : Type 0 where
  pub is_joined : counters.is_joined ≡ is_some run_card.host
  pub silent_seconds : counters.silent_seconds ≡ seconds_from run_card.heard run_card.now
  pub joins : counters.joins ≡ counts.joins
  pub places_are : counters.places ≡ places
  pub viewers : counters.viewers ≡ viewers_by_role run_card.viewers.items
  pub came : counters.came ≡ counts.came
  pub refused : counters.refused ≡ counts.refused
  pub updates : counters.updates ≡ run_card.updates
  pub answers : counters.answers ≡ run_card.totals.updates
  pub bytes : counters.bytes ≡ run_card.totals.bytes
  pub waiting : counters.waiting ≡ inputs.waiting
  pub dropped : counters.dropped ≡ inputs.dropped
  pub recorded_is : counters.recorded ≡ recorded
  pub lag : IsLag (updates_behind run_card) counters.lag

-- What a machine is answered from: these numbers, and whether an operator lets nobody in.
pub record IsWatched (run_card : RunCard) (counts : EventCounts) (places : ByRole) (inputs : Inputs) (recorded : RecordingCounts) (watched : Watched) : Type 0 where
  pub counters : AreCounters run_card counts places inputs recorded watched.counters
  pub is_drained : watched.is_drained ≡ not (is_open run_card.entry)
