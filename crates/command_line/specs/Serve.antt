-- The command `reflectord serve` as clap reads it, and the statuses of lines that set nothing.
use Rattle.std.specs.Prelude.{◌++◌, ◌≢◌, ◌≡◌, ◌⊎◌, ◌∷◌, List, Some, [], codes, pos, true, ℕ}
use Rattle.clap.specs.Words.{App, Kinds, Rule, Text, new_rule}
use Rattle.clap.specs.Simple.{new_shape}
use Rattle.clap.specs.declared.builder.action.ArgAction.TheVariants.{Append, Set, SetTrue}
use Rattle.clap.specs.declared.builder.value_parser.ValueParser.TheVariants as vp

-- an option that takes one value, under its long name
abbrev pub option : Text → Rule
option name =
    record (new_rule name) { long = Some name; action = Some Set; value_names = 1 }

abbrev pub with_default : Text → Rule → Rule
with_default text rule = record rule { defaults = text ∷ [] }

-- the port of one role of viewers
abbrev pub port : Text → Text → Rule
port name default =
    with_default default (record (option name) { parser = Some (vp.Signed (pos 1) (pos 65535)) })

-- how many viewers of one role there may be: four where the words don't say
abbrev pub places : Text → Rule
places name =
    with_default (codes "4") (record (option name) { parser = Some (vp.Unsigned 1 32) })

-- how many seconds pass before the first host is tried again; where they aren't given it isn't tried again
abbrev pub pause : Text → Rule
pause name = record (option name) { parser = Some (vp.Unsigned 1 3600) }

-- how many seconds something may last: 60 where the words don't say
abbrev pub seconds : Text → Rule
seconds name =
    with_default (codes "60") (record (option name) { parser = Some (vp.Unsigned 10 600) })

-- the port of browsers of one role; where it isn't given there is none
abbrev pub web_port : Text → Rule
web_port name = record (option name) { parser = Some (vp.Signed (pos 1) (pos 65535)) }

-- an option that takes one value each time that it is given
abbrev pub repeated : Text → Rule
repeated name = record (new_rule name) { long = Some name; action = Some Append; value_names = 1 }

-- up to this many words that no option takes
abbrev pub further : Text → ℕ → Rule
further name most = record (new_rule name) {
  action = Some Set;
  range = Some (record { start_inclusive = 0; end_inclusive = most });
  value_names = 1;
}

-- an option that takes no value
abbrev pub flag : Text → Rule
flag name = record (new_rule name) { long = Some name; action = Some SetTrue }

-- `--host` must be there
abbrev pub host : Rule
host = record (option (codes "host")) { required = true }

abbrev pub bind : Rule
bind = with_default (codes "127.0.0.1") (option (codes "bind"))

abbrev pub full_bind : Rule
full_bind = option (codes "full-bind")

-- the options of the first host
abbrev pub host_rules : List Rule
host_rules = host ∷ option (codes "host-password-file") ∷ []

-- the options of the addresses and ports of viewers
abbrev pub port_rules : List Rule
port_rules = bind ∷ full_bind
    ∷ port (codes "full") (codes "5900")
    ∷ port (codes "view") (codes "5901")
    ∷ flag (codes "view-only")
    ∷ []

-- the options of who may be a viewer
abbrev pub viewer_rules : List Rule
viewer_rules = option (codes "full-password-file")
    ∷ option (codes "view-password-file")
    ∷ places (codes "full-places")
    ∷ places (codes "view-places")
    ∷ []

-- the options of the screen that viewers are sent
abbrev pub screen_rules : List Rule
screen_rules = option (codes "room") ∷ flag (codes "plain-runs") ∷ flag (codes "no-zrle") ∷ []

-- the options of browsers
abbrev pub browser_rules : List Rule
browser_rules = web_port (codes "web-full")
    ∷ web_port (codes "web-view")
    ∷ option (codes "web-root")
    ∷ repeated (codes "web-origin")
    ∷ []

-- the options of machines that read the run's numbers, of a proxy, and of the log
abbrev pub machine_rules : List Rule
machine_rules = option (codes "metrics") ∷ option (codes "proxy-from") ∷ flag (codes "log") ∷ []

-- the options of when hosts are tried again, and of how recordings are played
abbrev pub turn_rules : List Rule
turn_rules = pause (codes "again") ∷ option (codes "from") ∷ option (codes "speed") ∷ []

-- the options of how long a viewer is waited for, of an operator, of the recording that is made, and of further hosts
abbrev pub run_rules : List Rule
run_rules = seconds (codes "stalled")
    ∷ option (codes "control")
    ∷ option (codes "record")
    ∷ seconds (codes "record-key")
    ∷ further (codes "next") 8
    ∷ []

-- all options, in the order in which the help names them
abbrev pub options : List Rule
options = host_rules ++ port_rules ++ viewer_rules ++ screen_rules
    ++ browser_rules ++ machine_rules ++ turn_rules ++ run_rules

-- its words are those after `serve`, and it answers `--version`
abbrev pub serve_alone : App
serve_alone = record {
  top = record (new_shape (codes "serve")) { no_binary_name = true; has_version = true };
  subs = [];
}

abbrev pub serve : App
serve = record serve_alone { top = record serve_alone.top { rules = options } }

-- memory was refused, or the line has one of clap's faults (a call for help or for the version counts as one)
abbrev pub IsBad : Kinds → ℕ → Type 0
IsBad faults status = (status ≡ 4) ⊎ ((status ≡ 2) × (faults ≢ []))
