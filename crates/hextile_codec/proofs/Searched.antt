-- What a search answered, by what its answer is. `chosen` and `rows_beside` go on from such an answer.
use Rattle.std.proofs.Common.{◌≡◌, Option, Some, None, refl, subst}
use Rattle.std.specs.Prelude.{MatchOption}

pub many_of : {A : Type 0} (N : Type 0) (S : A → Type 0) (answer : Option A) → ((n : A) → answer ≡ Some n → ⊥) → MatchOption answer N S → N
many_of N S None ne m = m
many_of N S (Some n) ne m = absurd (ne n refl)

pub found_of : {A : Type 0} (N : Type 0) (S : A → Type 0) (answer : Option A) (n : A) → answer ≡ Some n → MatchOption answer N S → S n
found_of {A} N S answer n e m = subst (λ (a : Option A). MatchOption a N S) e m
