-- What the settings say for the viewers of a role, and for all of them.
use Rattle.std.specs.Prelude.{ℕ, ◌≤◌, List, Option, None, if◌then◌else◌, option_map}
use Rattle.std.specs.Option.{option_map_or}
use Rattle.std.specs.String.{string_bytes}
use Rattle.joined_runs.specs.declared.rect_form.RectForm.{RectForm}
use Rattle.joined_runs.specs.declared.rect_form.RectForm.TheVariants.{OfRows, Joined}
use Rattle.roles.specs.declared.role.Role.{Role}
use Rattle.roles.specs.declared.role.Role.TheVariants.{Full, View}
use Rattle.settings.specs.declared.values.Settings.{Settings}

-- How many viewers of a role are to be served: none with full control where there are only those who look on.
abbrev pub places_for : Role → Settings → ℕ
places_for Full settings = if settings.view_only then 0 else settings.full_places
places_for View settings = settings.view_places

-- The port of the viewers of a role.
abbrev pub port_for : Role → Settings → ℕ
port_for Full settings = settings.full
port_for View settings = settings.view

-- The port of the browsers of a role, if there is one: none with full control where all only look on.
abbrev pub web_port_for : Role → Settings → Option ℕ
web_port_for Full settings = if settings.view_only then None else settings.web_full
web_port_for View settings = settings.web_view

-- The path of the file with the password that the viewers of a role are asked for, if they are asked for one.
abbrev pub password_file_for : Role → Settings → Option (List ℕ)
password_file_for Full settings = option_map string_bytes settings.full_password
password_file_for View settings = option_map string_bytes settings.view_password

-- The text to bind for the viewers of a role: those with full control may have one of their own.
abbrev pub bind_for : Role → Settings → List ℕ
bind_for Full settings = option_map_or string_bytes settings.full_bind (string_bytes settings.bind)
bind_for View settings = string_bytes settings.bind

-- The form in which viewers are answered: joined runs, unless the runs of rows are asked for.
abbrev pub rect_form_for : Settings → RectForm
rect_form_for settings = if settings.plain_runs then OfRows else Joined

-- From 1 to 32 places for each role.
abbrev pub HasPlaces : Settings → Type 0
HasPlaces settings =
    (1 ≤ settings.full_places) × (settings.full_places ≤ 32) × (1 ≤ settings.view_places) × (settings.view_places ≤ 32)
