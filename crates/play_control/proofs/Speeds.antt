-- A text spells no two speeds: so one that spells a speed out of the range spells none within it. And it spells none
-- where the part that its points leave spells nothing. `read` answers None there.
use Rattle.std.proofs.Common.{◌≡◌, ◌≤◌, ◌<◌, ◌⊎◌, inl, inr, ◌+◌, ◌*◌, List, ℕ, length, arith, Option, Some, None}
use Rattle.std.specs.Prelude.{slice_index, IfNone}
use Rattle.play_control.specs.Speeds.{IsWhole, IsPart, SpellsWith, SpellsSpeed}

-- ---- one number

one_whole : (len : ℕ) (text : List ℕ) (n m : ℕ) → IsWhole len text n → IsWhole len text m → n ≡ m
one_whole len text n m (inl a) (inl b) = omega (arith, a.2, b.2)
one_whole len text n m (inl a) (inr b) = absurd (omega (arith, a.0, b.0))
one_whole len text n m (inr a) (inl b) = absurd (omega (arith, a.0, b.0))
one_whole len text n m (inr a) (inr b) = omega (arith, a.3.0, a.3.1, b.3.0, b.3.1)

one_part : (place : ℕ) (text : List ℕ) (n m : ℕ) → IsPart place text n → IsPart place text m → n ≡ m
one_part place text n m (inl a) (inl b) = omega (arith, a.3, a.4, b.3, b.4)
one_part place text n m (inl a) (inr b) = absurd (omega (arith, a.0, b.0))
one_part place text n m (inr a) (inl b) = absurd (omega (arith, a.0, b.0))
one_part place text n m (inr a) (inr b) = omega (arith, a.2.0, a.2.1, b.2.0, b.2.1)

one_with : (digits : ℕ) (text : List ℕ) (n m : ℕ) → SpellsWith digits text n → SpellsWith digits text m → n ≡ m
one_with digits text n m a b =
    let whole = one_whole digits text a.1 b.1 a.3 b.3 in
    let part = one_part (digits + 1) text a.2 b.2 a.4 b.4 in
    omega (arith, whole, part, a.5, b.5)

-- ---- one point

-- A text that has a part is longer than what stands before it.
is_longer : (place : ℕ) (text : List ℕ) (n : ℕ) → IsPart place text n → place < length text
is_longer place text n (inl a) = omega (arith, a.0)
is_longer place text n (inr a) = omega (arith, a.0)

is_short : (text : List ℕ) (n : ℕ) → IsWhole (length text) text n → length text ≤ 2
is_short text n (inl a) = omega (arith, a.0)
is_short text n (inr a) = omega (arith, a.0)

no_whole : (text : List ℕ) (digits n m : ℕ) → 1 ≤ digits → IsWhole (length text) text n → SpellsWith digits text m → ⊥
no_whole text digits n m some a b = absurd (omega (arith, some, is_short text n a, is_longer (digits + 1) text b.2 b.4))

-- Where the second byte is the point, no two digits stand before one.
no_second : (text : List ℕ) (n : ℕ) → slice_index text 1 ≡ 46 → SpellsWith 2 text n → ⊥
no_second text n point a = not_two a.1 a.3
  where
    not_two : (whole : ℕ) → IsWhole 2 text whole → ⊥
    not_two whole (inl b) = absurd (omega (arith, b.0))
    not_two whole (inr b) = absurd (omega (arith, point, b.3.1))

one_speed : (text : List ℕ) (n m : ℕ) → SpellsSpeed text n → SpellsSpeed text m → n ≡ m
one_speed text n m (inl a) (inl b) = let whole = one_whole (length text) text a.0 b.0 a.1 b.1 in omega (arith, whole, a.2, b.2)
one_speed text n m (inl a) (inr (inl b)) = absurd (no_whole text 1 a.0 m (omega arith) a.1 b)
one_speed text n m (inl a) (inr (inr b)) = absurd (no_whole text 2 a.0 m (omega arith) a.1 b)
one_speed text n m (inr (inl a)) (inl b) = absurd (no_whole text 1 b.0 n (omega arith) b.1 a)
one_speed text n m (inr (inl a)) (inr (inl b)) = one_with 1 text n m a b
one_speed text n m (inr (inl a)) (inr (inr b)) = absurd (no_second text m a.0 b)
one_speed text n m (inr (inr a)) (inl b) = absurd (no_whole text 2 b.0 n (omega arith) b.1 a)
one_speed text n m (inr (inr a)) (inr (inl b)) = absurd (no_second text n b.0 a)
one_speed text n m (inr (inr a)) (inr (inr b)) = one_with 2 text n m a b

-- ---- what `read` doesn't take

pub out_of_range : (text : List ℕ) (read : ℕ) → SpellsSpeed text read → (25 ≤ read → read ≤ 1600 → ⊥) → (n : ℕ) → 25 ≤ n → n ≤ 1600 → SpellsSpeed text n → ⊥
out_of_range text read spells out n slow fast says =
    let same = one_speed text read n spells says in out (omega (arith, same, slow)) (omega (arith, same, fast))

pub no_digit : (len : ℕ) (text : List ℕ) → len ≡ 1 → ((n : ℕ) → n < 10 → slice_index text 0 ≡ 48 + n → ⊥) → (n : ℕ) → IsWhole len text n → ⊥
no_digit len text one none n (inl a) = none n a.1 a.2
no_digit len text one none n (inr a) = absurd (omega (arith, one, a.0))

pub no_tenth : (place : ℕ) (text : List ℕ) → length text ≡ place + 1 → ((n : ℕ) → n < 10 → slice_index text place ≡ 48 + n → ⊥) → (n : ℕ) → IsPart place text n → ⊥
no_tenth place text one none n (inl a) = none a.1 a.2 a.3
no_tenth place text one none n (inr a) = absurd (omega (arith, one, a.0))

pub none_with_one : (text : List ℕ) (read : Option ℕ) → 1 < length text → slice_index text 1 ≡ 46 → IfNone read ((n : ℕ) → SpellsWith 1 text n → ⊥) → IfNone read ((n : ℕ) → SpellsSpeed text n → ⊥)
none_with_one text (Some read) more point none = tt
none_with_one text None more point none = λ n says. elim says [
  | inl a ↦ not_whole a.0 a.1
  | inr (inl a) ↦ none n a
  | inr (inr a) ↦ no_second text n point a
]
  where
    not_whole : (whole : ℕ) → IsWhole (length text) text whole → ⊥
    not_whole whole (inl a) = absurd (omega (arith, more, a.0))
    not_whole whole (inr a) = absurd (omega (arith, point, a.3.1))

pub none_with_two : (text : List ℕ) (read : Option ℕ) → (1 < length text → slice_index text 1 ≡ 46 → ⊥) → 2 < length text → IfNone read ((n : ℕ) → SpellsWith 2 text n → ⊥) → IfNone read ((n : ℕ) → SpellsSpeed text n → ⊥)
none_with_two text (Some read) other more none = tt
none_with_two text None other more none = λ n says. elim says [
  | inl a ↦ absurd (omega (arith, more, is_short text a.0 a.1))
  | inr (inl a) ↦ other (omega (arith, more)) a.0
  | inr (inr a) ↦ none n a
]

pub none_without : (text : List ℕ) → (1 < length text → slice_index text 1 ≡ 46 → ⊥) → (2 < length text → slice_index text 2 ≡ 46 → ⊥) → ((n : ℕ) → IsWhole (length text) text n → ⊥) → (n : ℕ) → SpellsSpeed text n → ⊥
none_without text no_one no_two none n (inl a) = none a.0 a.1
none_without text no_one no_two none n (inr (inl a)) = no_one (omega (arith, is_longer 2 text a.2 a.4)) a.0
none_without text no_one no_two none n (inr (inr a)) = no_two (omega (arith, is_longer 3 text a.2 a.4)) a.0
