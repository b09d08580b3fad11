-- Lines of the log.
use Rattle.std.specs.Prelude.{ℕ, zero, suc, Bool, true, false, List, [], ◌++◌, ◌+◌, ◌-◌, ◌^◌, min, codes}
use Rattle.std.specs.Fmt.{decimal}
use Rattle.run_reports.specs.declared.gravity.Gravity.{Gravity}
use Rattle.run_reports.specs.declared.gravity.Gravity.TheVariants.{Fault, Warning, Plain}

-- What stands before a line where the journal reads it: the number of a priority of syslog, 3 for an error and 4 for a
-- warning (sd-daemon(3)).
abbrev pub journal_prefix : Gravity → List ℕ
journal_prefix Fault = codes "<3>"
journal_prefix Warning = codes "<4>"
journal_prefix Plain = []

-- What stands before a line: nothing where it isn't the journal that reads it.
abbrev pub prefix_for : Gravity → Bool → List ℕ
prefix_for gravity true = journal_prefix gravity
prefix_for gravity false = []

-- A line, then how many lines were left out before it, if some were, and then its end.
abbrev pub after_line : List ℕ → ℕ → List ℕ
after_line line zero = line ++ codes "\n"
after_line line (suc n) = line ++ codes " left-out=" ++ decimal (suc n) ++ codes "\n"

-- One more, or the same where that is the greatest number of 64 bits.
abbrev pub counted : ℕ → ℕ
counted n = min (n + 1) (2 ^ 64 - 1)
