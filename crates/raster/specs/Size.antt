-- The sizes that a screen may have (own; RFC 6143 allows up to 65535 by 65535).
use Rattle.std.specs.Prelude.{ℕ, ◌≤◌}

-- A screen of 1 to 4096 by 1 to 4096.
pub record IsScreenSize (w h : ℕ) : Type 0 where
  pub wide : (1 ≤ w) × (w ≤ 4096)
  pub high : (1 ≤ h) × (h ≤ 4096)
