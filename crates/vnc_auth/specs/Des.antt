-- DES, the data encryption standard (FIPS 46-3), on lists of bits.
use Rattle.std.specs.Prelude.{ℕ, ◌+◌, ◌-◌, ◌*◌, ◌/◌, ◌%◌, Bool, List, [], ◌∷◌, ◌++◌, map, reverse, slice_index}
use Rattle.std.specs.List.{range_with_len}
use Rattle.vnc_auth.specs.Bits.{bit, at_places, exclusive, has, worth}
use Rattle.vnc_auth.specs.declared.tables.TheConstants.{INITIAL_LEFT, INITIAL_RIGHT, FINAL, EXPANSION, PERMUTATION, KEY_CHOICE, ROUND_CHOICE, TURNS, BOXES}

-- ---- the key of a round

-- 56 bits of a key, each half of which is turned to the left by so many places.
abbrev pub turned : ℕ → List Bool → List Bool
turned turns chosen = map (λ i. bit chosen (i / 28 * 28 + (i % 28 + turns) % 28)) (range_with_len 0 56)

-- The key of the round that turns them so.
abbrev pub round_key : ℕ → List Bool → List Bool
round_key turns chosen = at_places ROUND_CHOICE (turned turns chosen)

-- ---- a round

-- Where in its box six bits from i on stand: the first and the last say the row, and the four between them the column.
abbrev pub place_in_box : List Bool → ℕ → ℕ
place_in_box bits i =
    worth bits i 32 + worth bits (i + 5) 16 + worth bits (i + 1) 8 + worth bits (i + 2) 4 + worth bits (i + 3) 2 + worth bits (i + 4) 1

-- 48 bits, each six of which have become the four bits of a number in their box.
abbrev pub substituted : List Bool → List Bool
substituted bits =
    map (λ i. has (slice_index BOXES (i / 4 * 64 + place_in_box bits (i / 4 * 6))) (3 - i % 4)) (range_with_len 0 32)

-- What a half and the key of a round make.
abbrev pub mixed : List Bool → List Bool → List Bool
mixed half key = at_places PERMUTATION (substituted (exclusive (at_places EXPANSION half) key))

-- The two halves of a block.
pub record Halves : Type 0 where
  pub left : List Bool
  pub right : List Bool

-- They are exchanged, and the one is mixed into the other.
abbrev pub after_round : List Bool → Halves → Halves
after_round key h = record { left = h.right; right = exclusive h.left (mixed h.right key) }

-- The same for a list of rounds.
unfoldable pub after_rounds : List ℕ → List Bool → Halves → Halves
after_rounds [] chosen h = h
after_rounds (turns ∷ more) chosen h = after_rounds more chosen (after_round (round_key turns chosen) h)

-- ---- all of it

-- A block of 64 bits, split and permuted; and joined again, the right half first.
abbrev pub split : List Bool → Halves
split block = record { left = at_places INITIAL_LEFT block; right = at_places INITIAL_RIGHT block }

abbrev pub joined : Halves → List Bool
joined h = at_places FINAL (h.right ++ h.left)

-- A block of 64 bits, carried through rounds that turn a key of 64 bits so.
abbrev pub coded : List ℕ → List Bool → List Bool → List Bool
coded turns key block = joined (after_rounds turns (at_places KEY_CHOICE key) (split block))

-- A block encrypted, and decrypted: the keys of the rounds are taken in the opposite order.
abbrev pub encrypted : List Bool → List Bool → List Bool
encrypted key block = coded TURNS key block

abbrev pub decrypted : List Bool → List Bool → List Bool
decrypted key block = coded (reverse TURNS) key block
