-- What systemd is told of a run: lines of a name and a value (sd_notify(3)).
use Rattle.std.specs.Prelude.{ℕ, List, [], ◌++◌, codes}
use Rattle.std.specs.Option.{option_map_or}
use Rattle.std.specs.Fmt.{decimal}
use Rattle.run_reports.specs.declared.notice.Notice.{Notice}
use Rattle.run_reports.specs.declared.notice.Ready.{Ready}
use Rattle.run_reports.specs.declared.notice.Ready.TheVariants.{Now, Unsaid}

-- The line that says that the run is ready, where that is said.
abbrev pub ready_line : Ready → List ℕ
ready_line Now = codes "READY=1\n"
ready_line Unsaid = []

-- Whether a host is joined, and which.
abbrev pub host_part : Notice → List ℕ
host_part n = option_map_or (λ host. codes "host " ++ host.now) n.host (codes "no host")

abbrev pub after_status : List ℕ → Notice → List ℕ
after_status before n =
    before ++ codes "STATUS=" ++ host_part n ++ codes "; " ++ decimal n.viewers ++ codes " of " ++ decimal n.places ++ codes " viewers\n"

abbrev pub notice_of : Notice → List ℕ
notice_of n = after_status (ready_line n.ready) n
