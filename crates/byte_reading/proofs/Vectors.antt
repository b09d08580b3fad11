-- The definitions compute the worked values. A definition that says something else is refused here.
use Rattle.std.proofs.Common.{◌≡◌, ℕ, [], ◌∷◌, refl}
use Rattle.std.specs.Prelude.{Some, ◌==◌}
use Rattle.fault.specs.declared.kinds.Fault.TheVariants.{NoNone}
use Rattle.byte_reading.specs.Reading.{Reading, Done, ◌>>=◌, byte, u16, unless, after, taken, messages, rest, fault_of, whole_of}

-- Two numbers of two bytes each, and a third that is begun.
pub two_numbers : messages u16 (0 ∷ 1 ∷ 2 ∷ 3 ∷ 4 ∷ []) ≡ 0x0001 ∷ 0x0203 ∷ []
two_numbers = refl

pub third_goes_on : whole_of (after (rest u16 (0 ∷ 1 ∷ 2 ∷ 3 ∷ 4 ∷ [])) (5 ∷ [])) ≡ Some 0x0405
third_goes_on = refl

-- Of three bytes a number takes two.
pub two_bytes_are_taken : taken u16 (0 ∷ 1 ∷ 2 ∷ []) ≡ 2
two_bytes_are_taken = refl

-- A byte that may not be 7.
abbrev not_seven : Reading ℕ
not_seven = byte >>= λ b. unless (b == 7) NoNone (Done b)

-- At a fault nothing more is read, and the fault stays.
pub read_up_to_a_fault : messages not_seven (5 ∷ 6 ∷ 7 ∷ 8 ∷ []) ≡ 5 ∷ 6 ∷ []
read_up_to_a_fault = refl

pub fault_stays : fault_of (rest not_seven (5 ∷ 6 ∷ 7 ∷ 8 ∷ [])) ≡ Some NoNone
fault_stays = refl
