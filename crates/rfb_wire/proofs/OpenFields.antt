-- How a field of this many bytes goes on after some of them. A handshake may be cut anywhere.
use Rattle.std.proofs.Common.{◌≡◌, ℕ, ◌<◌, true, List, length, None, refl}
use Rattle.byte_reading.specs.Reading.{Reading, Done, Faulty, Want, ◌>>=◌, step, after, bytes, whole_of, fault_of, wants_more}
use Rattle.byte_reading.proofs.ReadingLaws.{none_whole, wants_no_fault}
use Rattle.byte_reading.proofs.Heads.{head_wants}

-- Another byte is wanted, and nothing is whole or at fault.
pub record IsOpen {A : Type 0} (r : Reading A) : Type 0 where
  pub wants : wants_more r ≡ true
  pub fine : fault_of r ≡ None
  pub unfinished : whole_of r ≡ None

-- A byte is wanted, so nothing is whole or at fault.
open_from : {A : Type 0} (r : Reading A) → wants_more r ≡ true → IsOpen r
open_from r w = record { wants = w; fine = wants_no_fault r w; unfinished = none_whole r w }

-- Before it is whole, another byte is wanted.
pub field_open : {A : Type 0} (n : ℕ) (next : List ℕ → Reading A) (xs : List ℕ) → length xs < n → IsOpen (after (bytes n >>= next) xs)
field_open n next xs lt = open_from (after (bytes n >>= next) xs) (head_wants n next xs lt)

-- What is open is open with what follows it.
pub bind_open : {A B : Type 0} (r : Reading A) (next : A → Reading B) → wants_more r ≡ true → IsOpen (r >>= next)
bind_open (Done x) next w = absurd cc
bind_open (Faulty f) next w = absurd cc
bind_open (Want more) next w = record { wants = refl; fine = refl; unfinished = refl }

-- A byte that what is open takes.
pub bind_step : {A B : Type 0} (r : Reading A) (next : A → Reading B) (b : ℕ) → wants_more r ≡ true → step (r >>= next) b ≡ (step r b >>= next)
bind_step (Done x) next b w = absurd cc
bind_step (Faulty f) next b w = absurd cc
bind_step (Want more) next b w = refl
