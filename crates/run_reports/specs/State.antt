-- How a run stands, in lines of names and values. Each definition of lines puts its lines at the end of the text that
-- it is given.
use Rattle.std.specs.Prelude.{ℕ, Bool, true, false, List, [], ◌∷◌, ◌++◌, codes, Option, Some, None}
use Rattle.std.specs.Fmt.{decimal}
use Rattle.roles.specs.declared.role.Role.{Role}
use Rattle.roles.specs.declared.role.Role.TheVariants.{Full, View}
use Rattle.run_control.specs.declared.doors.Entry.{Entry}
use Rattle.run_control.specs.declared.doors.Entry.TheVariants.{Open, Drained, Closed}
use Rattle.run_reports.specs.declared.report.HostReport.{HostReport}
use Rattle.run_reports.specs.declared.report.ViewerReport.{ViewerReport}
use Rattle.run_reports.specs.declared.report.PlayedReport.{PlayedReport}
use Rattle.run_reports.specs.declared.report.RecordingReport.{RecordingReport}
use Rattle.run_reports.specs.declared.report.RecordingState.{RecordingState}
use Rattle.run_reports.specs.declared.report.RecordingState.TheVariants.{Awaited, On, Ended, Failed}
use Rattle.run_reports.specs.declared.report.Report.{Report}

abbrev pub entry_word : Entry → List ℕ
entry_word Open = codes "open"
entry_word Drained = codes "drained"
entry_word Closed = codes "closed"

abbrev pub role_word : Role → List ℕ
role_word Full = codes "full"
role_word View = codes "view"

abbrev pub yes_word : Bool → List ℕ
yes_word true = codes "yes"
yes_word false = codes "no"

abbrev pub after_places : List ℕ → Report → List ℕ
after_places before r =
    before ++ codes "entry " ++ entry_word r.entry ++ codes "\nplaces role=full places=" ++ decimal r.full_places
    ++ codes "\nplaces role=view places=" ++ decimal r.view_places ++ codes "\n"

abbrev pub after_input : List ℕ → Report → List ℕ
after_input before r = before ++ codes "input waiting=" ++ decimal r.waiting ++ codes " dropped=" ++ decimal r.dropped ++ codes "\n"

abbrev pub after_host : List ℕ → HostReport → List ℕ
after_host before h =
    before ++ codes "host address=" ++ h.address.now ++ codes " width=" ++ decimal h.width ++ codes " height=" ++ decimal h.height
    ++ codes " seconds=" ++ decimal h.seconds ++ codes " silent=" ++ decimal h.silent ++ codes " updates=" ++ decimal h.updates
    ++ codes " name=\"" ++ h.name.now ++ codes "\"\n"

abbrev pub after_whoever : List ℕ → Option HostReport → List ℕ
after_whoever before None = before ++ codes "host none\n"
after_whoever before (Some h) = after_host before h

-- A run whose host is no recording has no line for that.
abbrev pub after_played : List ℕ → Option PlayedReport → List ℕ
after_played before None = before
after_played before (Some p) = before ++ codes "played time=" ++ p.time.now ++ codes " paused=" ++ yes_word p.is_paused ++ codes "\n"

abbrev pub recording_word : RecordingState → List ℕ
recording_word Awaited = codes "awaited"
recording_word On = codes "on"
recording_word Ended = codes "ended"
recording_word Failed = codes "failed"

-- A run that isn't recorded has no line for that.
abbrev pub after_recording : List ℕ → Option RecordingReport → List ℕ
after_recording before None = before
after_recording before (Some r) =
    before ++ codes "recording state=" ++ recording_word r.state ++ codes " seconds=" ++ decimal r.seconds ++ codes " bytes=" ++ decimal r.bytes ++ codes "\n"

abbrev pub after_place : List ℕ → ViewerReport → List ℕ
after_place before v =
    before ++ codes "viewer place=" ++ decimal v.place ++ codes " role=" ++ role_word v.role ++ codes " address=" ++ v.address.now

abbrev pub after_counts : List ℕ → ViewerReport → List ℕ
after_counts before v =
    before ++ codes " seconds=" ++ decimal v.seconds ++ codes " updates=" ++ decimal v.updates ++ codes " bytes=" ++ decimal v.bytes
    ++ codes " behind=" ++ decimal v.behind

abbrev pub after_viewer : List ℕ → ViewerReport → List ℕ
after_viewer before v = after_counts (after_place before v) v ++ codes " asked=" ++ yes_word v.is_asked ++ codes "\n"

abbrev pub after_viewers : List ℕ → List ViewerReport → List ℕ
after_viewers before [] = before
after_viewers before (v ∷ vs) = after_viewers (after_viewer before v) vs

abbrev pub state_lines : Report → List ℕ
state_lines r = after_viewers (after_recording (after_played (after_whoever (after_input (after_places [] r) r) r.host) r.played) r.recording) r.viewers.now
