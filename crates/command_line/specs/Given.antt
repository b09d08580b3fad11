-- What a line sets.
use Rattle.std.specs.Prelude.{◌≡◌, ◌≢◌, ◌≤◌, ◌⊎◌, is_some, true, List, Option, Some, None, [], codes, map, option_map, unwrap_or, ℕ}
use Rattle.std.specs.Str.{bytes_eq}
use Rattle.std.specs.String.{string_bytes}
use Rattle.std.specs.Str.Parse.{IsNumeral, digits_value, without_leading_plus}
use Rattle.raster.specs.Size.{IsScreenSize}
use Rattle.clap.specs.Words.{Rule, Text, all_of, built, fault_of, first_of}
use Rattle.clap.specs.Walk.{nothing_held, settled, walk}
use Rattle.command_line.specs.Serve.{IsBad, serve}
use Rattle.play_control.specs.Times.{IsClockText, IsClockTime}
use Rattle.play_control.specs.Speeds.{SpellsSpeed}
use Rattle.play_control.specs.declared.clock_time.ClockTime.{ClockTime}
use Rattle.play_control.specs.declared.speed.Speed.{Speed}
use Rattle.settings.specs.Recordings.{PlaysFrom}
use Rattle.settings.specs.Rooms.{room_text}
use Rattle.settings.specs.declared.room.Room.{Room}
use Rattle.settings.specs.declared.values.Settings.{Settings}

-- the options of the command, with `--help` and `--version`, which clap adds
abbrev pub known : List Rule
known = (built serve).top.rules

-- the text that the words give an option, or None: what clap's walk over the words leaves, before defaults are filled
-- in
abbrev pub given : List Text → Text → Option Text
given words name = first_of name (settled known (walk known [] nothing_held words).held).rows

-- the texts that the words give, in their order: each word that no option takes is one
abbrev pub all_given : List Text → Text → List Text
all_given words name = unwrap_or (all_of name (settled known (walk known [] nothing_held words).held).rows) []

-- the text that the words give an option, or else its default
abbrev pub text_of : List Text → Text → Text → Text
text_of words name default = unwrap_or (given words name) default

-- the text is decimal digits, perhaps after a plus, and they spell the number
abbrev pub Spells : Text → ℕ → Type 0
Spells text n = IsNumeral 10 (without_leading_plus text)
    × (n ≡ digits_value 10 (without_leading_plus text))

abbrev pub IsIn : ℕ → ℕ → ℕ → Type 0
IsIn low high n = (low ≤ n) × (n ≤ high)

-- the seconds that the text spells, from 1 to 3600, or none where there is no text
abbrev pub IsPause : Option Text → Option ℕ → Type 0
IsPause None again = again ≡ None
IsPause (Some text) again = (seconds : ℕ) × (again ≡ Some seconds) × Spells text seconds × IsIn 1 3600 seconds

-- the port that the text spells, or none where there is no text
abbrev pub IsPort : Option Text → Option ℕ → Type 0
IsPort None port = port ≡ None
IsPort (Some text) port = (number : ℕ) × (port ≡ Some number) × Spells text number × IsIn 1 65535 number

-- the room that the text spells, or none where there is no text
abbrev pub IsRoom : Option Text → Option Room → Type 0
IsRoom None room = room ≡ None
IsRoom (Some text) room = (r : Room) × (room ≡ Some r) × (text ≡ room_text r.width r.height)

-- the text spells no room
abbrev pub IsNoRoom : Text → Type 0
IsNoRoom text = (width height : ℕ) → IsScreenSize width height → text ≢ room_text width height

-- the time that the text spells, or none where there is no text
abbrev pub IsTime : Option Text → Option ClockTime → Type 0
IsTime None time = time ≡ None
IsTime (Some text) time = (t : ClockTime) × (time ≡ Some t) × IsClockTime t × IsClockText text t

abbrev pub IsNoTime : Text → Type 0
IsNoTime text = (time : ClockTime) → IsClockTime time → ¬ IsClockText text time

-- the speed that the text spells, from 0.25 to 16, or none where there is no text
abbrev pub IsSpeed : Option Text → Option Speed → Type 0
IsSpeed None speed = speed ≡ None
IsSpeed (Some text) speed = (s : Speed) × (speed ≡ Some s) × (25 ≤ s.hundredths) × (s.hundredths ≤ 1600) × SpellsSpeed text s.hundredths

abbrev pub IsNoSpeed : Text → Type 0
IsNoSpeed text = (n : ℕ) → 25 ≤ n → n ≤ 1600 → ¬ SpellsSpeed text n

-- By these texts of the options `--room`, `--from`, `--speed` and `--host`, the first spells no room, the second no
-- time or the third no speed; or the second or third is there, though the host is no recording.
abbrev pub AreMisread : (room from speed host : Option Text) → Type 0
AreMisread room from speed host =
    ((text : Text) × (room ≡ Some text) × IsNoRoom text)
    ⊎ ((text : Text) × (from ≡ Some text) × IsNoTime text)
    ⊎ ((text : Text) × (speed ≡ Some text) × IsNoSpeed text)
    ⊎ (((is_some from ≡ true) ⊎ (is_some speed ≡ true)) × (text : Text) × (host ≡ Some text) × ((path : Text) → ¬ PlaysFrom text path))

-- memory was refused, or the line has one of clap's faults, or a text that it gives is misread
abbrev pub IsBadLine : List Text → ℕ → Type 0
IsBadLine words status =
    IsBad (fault_of serve words) status
    ⊎ ((status ≡ 2) × AreMisread (given words (codes "room")) (given words (codes "from")) (given words (codes "speed")) (given words (codes "host")))

-- the settings are those that the words set; a flag that the words give has the text `true`, and can have no other
pub record AreSetBy (words : List Text) (s : Settings) : Type 0 where
  pub host : given words (codes "host") ≡ Some (string_bytes s.host)
  pub host_password : option_map string_bytes s.host_password ≡ given words (codes "host-password-file")
  pub bind : string_bytes s.bind ≡ text_of words (codes "bind") (codes "127.0.0.1")
  pub full_bind : option_map string_bytes s.full_bind ≡ given words (codes "full-bind")
  pub full : Spells (text_of words (codes "full") (codes "5900")) s.full
  pub view : Spells (text_of words (codes "view") (codes "5901")) s.view
  pub view_only : s.view_only ≡ bytes_eq (text_of words (codes "view-only") (codes "false")) (codes "true")
  pub full_password : option_map string_bytes s.full_password ≡ given words (codes "full-password-file")
  pub view_password : option_map string_bytes s.view_password ≡ given words (codes "view-password-file")
  pub full_places : Spells (text_of words (codes "full-places") (codes "4")) s.full_places
  pub view_places : Spells (text_of words (codes "view-places") (codes "4")) s.view_places
  pub room : IsRoom (given words (codes "room")) s.room
  pub plain_runs : s.plain_runs ≡ bytes_eq (text_of words (codes "plain-runs") (codes "false")) (codes "true")
  pub no_zrle : s.no_zrle ≡ bytes_eq (text_of words (codes "no-zrle") (codes "false")) (codes "true")
  pub web_full : IsPort (given words (codes "web-full")) s.web_full
  pub web_view : IsPort (given words (codes "web-view")) s.web_view
  pub web_root : option_map string_bytes s.web_root ≡ given words (codes "web-root")
  pub web_origins : map string_bytes s.web_origins.items ≡ all_given words (codes "web-origin")
  pub metrics : option_map string_bytes s.metrics ≡ given words (codes "metrics")
  pub proxy_from : option_map string_bytes s.proxy_from ≡ given words (codes "proxy-from")
  pub log : s.log ≡ bytes_eq (text_of words (codes "log") (codes "false")) (codes "true")
  pub again : IsPause (given words (codes "again")) s.again
  pub from : IsTime (given words (codes "from")) s.from
  pub speed : IsSpeed (given words (codes "speed")) s.speed
  pub stalled : Spells (text_of words (codes "stalled") (codes "60")) s.stalled
  pub control : option_map string_bytes s.control ≡ given words (codes "control")
  pub recording : option_map string_bytes s.recording ≡ given words (codes "record")
  pub recording_key : Spells (text_of words (codes "record-key") (codes "60")) s.recording_key
  pub next : map string_bytes s.next.items ≡ all_given words (codes "next")
  pub full_port : IsIn 1 65535 s.full
  pub view_port : IsIn 1 65535 s.view
  pub full_range : IsIn 1 32 s.full_places
  pub view_range : IsIn 1 32 s.view_places
  pub stalled_range : IsIn 10 600 s.stalled
  pub recording_key_range : IsIn 10 600 s.recording_key
