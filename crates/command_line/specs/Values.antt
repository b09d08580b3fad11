-- What clap's matches hold once a line was read.
use Rattle.std.specs.Prelude.{◌≡◌, ◌⊎◌, Bool, List, None, Some, [], codes, is_some, map, option_map, pos, true, unwrap_or, ℕ}
use Rattle.std.specs.Str.{bytes_eq}
use Rattle.std.specs.String.{string_bytes}
use Rattle.clap.specs.Words.{IsSignedIn, IsUnsignedIn, Text, first_value, matched_of, one_text, raw_values, without_minus}
use Rattle.clap.specs.declared.parser.matches.Found.{Found}
use Rattle.command_line.specs.Given.{AreMisread, IsIn, IsPause, IsPort, IsRoom, IsSpeed, IsTime, Spells}
use Rattle.settings.specs.declared.values.Settings.{Settings}

-- the option has a text
abbrev pub HasText : Found → Text → Type 0
HasText found name = is_some (first_value found name) ≡ true

-- the option has a port as its text
abbrev pub HasPort : Found → Text → Type 0
HasPort found name = (text : Text) × (first_value found name ≡ Some text)
    × (one_text found name ≡ Some (without_minus text)) × IsSignedIn (pos 1) (pos 65535) text

-- the option has a number in this range as its text
abbrev pub HasNumber : ℕ → ℕ → Found → Text → Type 0
HasNumber low most found name = (text : Text) × (first_value found name ≡ Some text)
    × (one_text found name ≡ Some text) × IsUnsignedIn low most text

-- the option has a number of places as its text
abbrev pub HasPlaces : Found → Text → Type 0
HasPlaces = HasNumber 1 32

-- the option has as its text how many seconds something may last
abbrev pub HasSeconds : Found → Text → Type 0
HasSeconds = HasNumber 10 600

-- the option has a number of seconds as its text, or no text
abbrev pub MayHavePause : Found → Text → Type 0
MayHavePause found name =
    ((first_value found name ≡ None) × (one_text found name ≡ None)) ⊎ HasNumber 1 3600 found name

-- the option has a port as its text, or no text
abbrev pub MayHavePort : Found → Text → Type 0
MayHavePort found name =
    ((first_value found name ≡ None) × (one_text found name ≡ None)) ⊎ HasPort found name

-- all texts under this name, in their order
abbrev pub texts_in : Found → Text → List Text
texts_in found name = unwrap_or (option_map raw_values (matched_of found name)) []

-- whether a flag was given: its text is `true`, and it has `false` by default
abbrev pub flag_of : Found → Text → Bool
flag_of found name = bytes_eq (unwrap_or (first_value found name) (codes "false")) (codes "true")

-- every option has its text, except those that may have none
pub record HasValues (found : Found) : Type 0 where
  pub host : HasText found (codes "host")
  pub bind : HasText found (codes "bind")
  pub full : HasPort found (codes "full")
  pub view : HasPort found (codes "view")
  pub full_places : HasPlaces found (codes "full-places")
  pub view_places : HasPlaces found (codes "view-places")
  pub web_full : MayHavePort found (codes "web-full")
  pub web_view : MayHavePort found (codes "web-view")
  pub again : MayHavePause found (codes "again")
  pub stalled : HasSeconds found (codes "stalled")
  pub recording_key : HasSeconds found (codes "record-key")

-- the option's text spells the number, which is in its range
abbrev pub IsNumberOf : Found → Text → ℕ → ℕ → ℕ → Type 0
IsNumberOf found name low most n =
    (text : Text) × (first_value found name ≡ Some text) × Spells text n × IsIn low most n

-- the text of an option is misread
abbrev pub IsMisread : Found → Type 0
IsMisread found =
    AreMisread (first_value found (codes "room")) (first_value found (codes "from")) (first_value found (codes "speed")) (first_value found (codes "host"))

-- the values are those of the matches
pub record AreValuesOf (found : Found) (s : Settings) : Type 0 where
  pub host : first_value found (codes "host") ≡ Some (string_bytes s.host)
  pub host_password : option_map string_bytes s.host_password ≡ first_value found (codes "host-password-file")
  pub bind : first_value found (codes "bind") ≡ Some (string_bytes s.bind)
  pub full_bind : option_map string_bytes s.full_bind ≡ first_value found (codes "full-bind")
  pub full : IsNumberOf found (codes "full") 1 65535 s.full
  pub view : IsNumberOf found (codes "view") 1 65535 s.view
  pub view_only : s.view_only ≡ flag_of found (codes "view-only")
  pub full_password : option_map string_bytes s.full_password ≡ first_value found (codes "full-password-file")
  pub view_password : option_map string_bytes s.view_password ≡ first_value found (codes "view-password-file")
  pub full_places : IsNumberOf found (codes "full-places") 1 32 s.full_places
  pub view_places : IsNumberOf found (codes "view-places") 1 32 s.view_places
  pub room : IsRoom (first_value found (codes "room")) s.room
  pub plain_runs : s.plain_runs ≡ flag_of found (codes "plain-runs")
  pub no_zrle : s.no_zrle ≡ flag_of found (codes "no-zrle")
  pub web_full : IsPort (first_value found (codes "web-full")) s.web_full
  pub web_view : IsPort (first_value found (codes "web-view")) s.web_view
  pub web_root : option_map string_bytes s.web_root ≡ first_value found (codes "web-root")
  pub web_origins : map string_bytes s.web_origins.items ≡ texts_in found (codes "web-origin")
  pub metrics : option_map string_bytes s.metrics ≡ first_value found (codes "metrics")
  pub proxy_from : option_map string_bytes s.proxy_from ≡ first_value found (codes "proxy-from")
  pub log : s.log ≡ flag_of found (codes "log")
  pub again : IsPause (first_value found (codes "again")) s.again
  pub from : IsTime (first_value found (codes "from")) s.from
  pub speed : IsSpeed (first_value found (codes "speed")) s.speed
  pub stalled : IsNumberOf found (codes "stalled") 10 600 s.stalled
  pub control : option_map string_bytes s.control ≡ first_value found (codes "control")
  pub recording : option_map string_bytes s.recording ≡ first_value found (codes "record")
  pub recording_key : IsNumberOf found (codes "record-key") 10 600 s.recording_key
  pub next : map string_bytes s.next.items ≡ texts_in found (codes "next")
