-- The numbers of a reflector in Prometheus' text-based format, version 0.0.4: of each family a HELP line, a TYPE line,
-- and a line for each number, with its labels. Each definition after_... puts more text behind the one that it is
-- given.
use Rattle.std.specs.Prelude.{ℕ, Bool, true, false, List, [], ◌++◌, codes}
use Rattle.std.specs.Fmt.{decimal}
use Rattle.run_reports.specs.declared.counters.ByRole.{ByRole}
use Rattle.run_reports.specs.declared.counters.Lag.{Lag}
use Rattle.run_reports.specs.declared.counters.RecordingCounts.{RecordingCounts}
use Rattle.run_reports.specs.declared.counters.Counters.{Counters}
use Rattle.run_reports.specs.declared.families.Family.{Family}

abbrev pub after_comments : List ℕ → (name kind help : List ℕ) → List ℕ
after_comments before name kind help =
    before ++ codes "# HELP reflectord_" ++ name ++ codes " " ++ help ++ codes "\n# TYPE reflectord_" ++ name ++ codes " " ++ kind ++ codes "\n"

abbrev pub after_head : List ℕ → Family → List ℕ
after_head before family = after_comments before family.name.now family.kind.now family.help.now

-- A number's line: its name, its labels, a blank and its digits.
abbrev pub after_sample : List ℕ → (name labels : List ℕ) → ℕ → List ℕ
after_sample before name labels number = before ++ codes "reflectord_" ++ name ++ labels ++ codes " " ++ decimal number ++ codes "\n"

abbrev pub after_one : List ℕ → (name kind help : List ℕ) → ℕ → List ℕ
after_one before name kind help number = after_sample (after_comments before name kind help) name [] number

abbrev pub after_single : List ℕ → Family → ℕ → List ℕ
after_single before family number = after_one before family.name.now family.kind.now family.help.now number

abbrev pub after_both : List ℕ → (name kind help : List ℕ) → ByRole → List ℕ
after_both before name kind help numbers =
    after_sample (after_sample (after_comments before name kind help) name (codes "{role=\"full\"}") numbers.full) name (codes "{role=\"view\"}") numbers.view

abbrev pub after_by_role : List ℕ → Family → ByRole → List ℕ
after_by_role before family numbers = after_both before family.name.now family.kind.now family.help.now numbers

-- 1 for true, and 0 for false.
abbrev pub one_if : Bool → ℕ
one_if true = 1
one_if false = 0

abbrev pub after_host : List ℕ → Counters → List ℕ
after_host before c =
    let a = after_one before (codes "host_joined") (codes "gauge") (codes "1 while a host is joined.") (one_if c.is_joined) in
    let b = after_one a (codes "host_silent_seconds") (codes "gauge") (codes "Seconds since the last byte of the host.") c.silent_seconds in
    after_one b (codes "host_joins_total") (codes "counter") (codes "Hosts that were joined.") c.joins

abbrev pub after_places : List ℕ → Counters → List ℕ
after_places before c =
    let a = after_both before (codes "places") (codes "gauge") (codes "Places of a role.") c.places in
    let b = after_both a (codes "viewers") (codes "gauge") (codes "Viewers that have a place.") c.viewers in
    let d = after_both b (codes "viewers_total") (codes "counter") (codes "Viewers that came.") c.came in
    after_both d (codes "refused_total") (codes "counter") (codes "Viewers that were refused: no free place, no host, nobody let in, a wrong password, or no proxy's header.") c.refused

abbrev pub after_sent : List ℕ → Counters → List ℕ
after_sent before c =
    let a = after_one before (codes "updates_total") (codes "counter") (codes "Updates of hosts that were put.") c.updates in
    let b = after_one a (codes "answers_total") (codes "counter") (codes "Updates begun for viewers.") c.answers in
    after_one b (codes "sent_bytes_total") (codes "counter") (codes "Bytes sent to viewers.") c.bytes

abbrev pub after_input : List ℕ → Counters → List ℕ
after_input before c =
    let a = after_one before (codes "input_waiting") (codes "gauge") (codes "Inputs of viewers that wait for the host.") c.waiting in
    after_one a (codes "input_dropped_total") (codes "counter") (codes "Inputs of viewers that were dropped, since another held a key or a button down.") c.dropped

abbrev pub after_recorded : List ℕ → RecordingCounts → List ℕ
after_recorded before r =
    let a = after_one before (codes "recording") (codes "gauge") (codes "1 while the run is recorded.") (one_if r.is_on) in
    let b = after_one a (codes "recording_start_time_seconds") (codes "gauge") (codes "When the recording began, in seconds since 1970, and 0 while the run isn't recorded.") r.start_seconds in
    let d = after_one b (codes "recording_failed") (codes "gauge") (codes "1 where the recording ended since its file took no more.") (one_if r.has_failed) in
    after_one d (codes "recorded_bytes_total") (codes "counter") (codes "Bytes that the file of the recording took.") r.bytes

abbrev pub after_lag : List ℕ → Lag → List ℕ
after_lag before lag =
    let head = after_comments before (codes "viewer_lag_updates") (codes "gauge") (codes "By how many updates this share of the viewers is behind at most.") in
    let half = after_sample head (codes "viewer_lag_updates") (codes "{share=\"0.5\"}") lag.half in
    let most = after_sample half (codes "viewer_lag_updates") (codes "{share=\"0.9\"}") lag.nine_tenths in
    after_sample most (codes "viewer_lag_updates") (codes "{share=\"1\"}") lag.all

abbrev pub metrics_of : Counters → List ℕ
metrics_of c = after_lag (after_recorded (after_input (after_sent (after_places (after_host [] c) c) c) c) c.recorded) c.lag
