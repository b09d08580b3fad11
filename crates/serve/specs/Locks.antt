-- The locks of a run's ports (own).
use Rattle.std.specs.Prelude.{◌≡◌, is_some}
use Rattle.roles.specs.declared.role.Role.{Role}
use Rattle.settings.specs.ByRole.{password_file_for}
use Rattle.settings.specs.declared.values.Settings.{Settings}
use Rattle.connections.specs.Keys.{is_locked}
use Rattle.connections.specs.declared.key.Key.{Key}

-- The port of the role is locked where the settings name a file with the password of its viewers, and open where they
-- name none. No definition says what a file has.
abbrev pub IsKeyFor : Role → Settings → Key → Type 0
IsKeyFor role settings key = is_locked key ≡ is_some (password_file_for role settings)
