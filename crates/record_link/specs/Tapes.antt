-- What a file has of the bytes that it is to have, and what waits for it (own).
use Rattle.std.specs.Prelude.{◌≡◌, ◌+◌, ◌≤◌, ◌^◌, ℕ, Bool, false, List, [], ◌++◌, length}
use Rattle.recording.specs.declared.form.TheConstants.{LONGEST_SPELLING}

-- What contracts see of a file that is written: the bytes that it has, those that were spelled for it and that it
-- hasn't taken, all that were ever spelled for it, and whether it is written no more.
pub record Tape : Type 0 where
  pub stored : List ℕ
  pub unsent : List ℕ
  pub spelled : List ℕ
  pub is_broken : Bool

-- The file has a beginning of what was spelled for it. Unless it is written no more, the rest is what it hasn't taken,
-- and that is at most one block.
pub record IsTape (t : Tape) : Type 0 where
  pub left : List ℕ
  pub begins : t.stored ++ left ≡ t.spelled
  pub rest : t.is_broken ≡ false → left ≡ t.unsent
  pub few : length t.unsent ≤ LONGEST_SPELLING

-- The file has all bytes, and more may be spelled for it.
pub record IsClear (t : Tape) : Type 0 where
  pub fine : t.is_broken ≡ false
  pub none : t.unsent ≡ []
  pub room : length t.spelled + LONGEST_SPELLING ≤ 2 ^ 62

-- A file to which nothing was written, and for which these bytes are spelled.
abbrev pub unwritten : List ℕ → Tape
unwritten bytes = record { stored = []; unsent = bytes; spelled = bytes; is_broken = false }
