-- Where giving stops before the last byte.
use Rattle.std.specs.Prelude.{◌≡◌, ℕ, ◌≤◌, ◌<◌, List, ◌++◌, length}
use Rattle.link.specs.Links.{LinkState, HasRisen}
use Rattle.link.specs.declared.give.Halt.{Halt}
use Rattle.link.specs.declared.give.Halt.TheVariants as halt

-- Why the bytes `left`, the last of `all`, weren't given: the flag was set; the link said that it ended, before the
-- first byte of `all` was given or later; or the link failed.
abbrev pub IsWhy : (was_set : Type 0) → Halt → (old new : LinkState) → (left all : List ℕ) → Type 0
IsWhy was_set halt.Stopped old new left all = was_set × (new.failed ≡ old.failed) × (new.ended ≡ old.ended) × (length left ≤ length all)
IsWhy was_set halt.Before old new left all = HasRisen old.ended new.ended × (new.failed ≡ old.failed) × (left ≡ all) × (0 < length all)
IsWhy was_set halt.Inside old new left all = HasRisen old.ended new.ended × (0 < length left) × (length left < length all)
IsWhy was_set halt.Failed old new left all = HasRisen old.failed new.failed × (0 < length left) × (length left ≤ length all)

-- These bytes were given, but for those that are left at their end.
pub record HaltsAt (was_set : Type 0) (halt : Halt) (old new : LinkState) (all : List ℕ) : Type 0 where
  pub left : List ℕ
  pub given : new.given ++ left ≡ old.given ++ all
  pub taken : new.taken ≡ old.taken
  pub why : IsWhy was_set halt old new left all
