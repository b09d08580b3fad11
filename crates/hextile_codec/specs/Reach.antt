-- How far a position of a word sees over bits that are set.
use Rattle.std.specs.Prelude.{◌≡◌, ℕ, zero, suc, ◌+◌, ◌<◌, ◌≤◌, min, max}
use Rattle.std.specs.Int.{bit_at}
use Rattle.hextile_codec.specs.declared.reaching.Reach.{Reach}

-- 1 where the n bits from bit p on are set.
abbrev pub clear_from : ℕ → ℕ → ℕ → ℕ
clear_from clean zero p = 1
clear_from clean (suc n) p = min (clear_from clean n p) (bit_at clean (p + n))

-- 1 where one of the n positions from p on is an end, and the bits from p to it are set.
abbrev pub reach_from : ℕ → ℕ → ℕ → ℕ → ℕ
reach_from clean ends zero p = 0
reach_from clean ends (suc n) p = max (reach_from clean ends n p) (min (clear_from clean (suc n) p) (bit_at ends (p + n)))

-- Words that say both of each position.
pub record Covers (clean ends n : ℕ) (reach : Reach) : Type 0 where
  pub clear : (p : ℕ) → bit_at reach.clear p ≡ clear_from clean n p
  pub reached : (p : ℕ) → bit_at reach.reached p ≡ reach_from clean ends n p

-- An end is among the 16 positions from p on, and none up to it is broken.
pub record Reaches (broken ends p : ℕ) : Type 0 where
  pub far : ℕ
  pub near : far < 16
  pub end : bit_at ends (p + far) ≡ 1
  pub none : (i : ℕ) → i ≤ far → bit_at broken (p + i) ≡ 0
