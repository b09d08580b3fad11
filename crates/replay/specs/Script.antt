-- How bytes are spelled: HEX in a script, and BYTES in what is printed for it.
use Rattle.std.specs.Prelude.{◌≡◌, ◌≢◌, ℕ, ◌<◌, List, [], ◌∷◌, length, map, Ok, All}
use Rattle.std.specs.List.{AllPass, concat, join_with_byte}
use Rattle.hex.specs.Hex.{decode_of, encode_upper, is_hex_digit}

-- A blank, 0x20.
abbrev pub blank : ℕ
blank = 32

-- A word: one or more bytes, none of them a blank.
abbrev pub IsWord : List ℕ → Type 0
IsWord word = (0 < length word) × All (λ b. b ≢ blank) word

-- A text is these words, none empty and none with a blank in it, divided by one blank each.
pub record IsDivided (text : List ℕ) (words : List (List ℕ)) : Type 0 where
  pub some : 0 < length words
  pub each : All IsWord words
  pub divided : text ≡ join_with_byte blank words

-- A text is HEX for these bytes: one or more words of hex digits of either case, divided by one blank each; all their
-- digits joined, of which the number is even, are those of the bytes.
pub record IsHex (text bytes : List ℕ) : Type 0 where
  pub words : List (List ℕ)
  pub divided : IsDivided text words
  pub digits : All (AllPass is_hex_digit) words
  pub joined : decode_of (concat words) ≡ Ok bytes

-- Words of four bytes; the last may be shorter.
abbrev pub words_of_four : List ℕ → List (List ℕ)
words_of_four [] = []
words_of_four (a ∷ []) = (a ∷ []) ∷ []
words_of_four (a ∷ b ∷ []) = (a ∷ b ∷ []) ∷ []
words_of_four (a ∷ b ∷ c ∷ []) = (a ∷ b ∷ c ∷ []) ∷ []
words_of_four (a ∷ b ∷ c ∷ d ∷ rest) = (a ∷ b ∷ c ∷ d ∷ []) ∷ words_of_four rest

-- BYTES: upper-case hex in words of four bytes, divided by one blank each.
abbrev pub bytes_text : List ℕ → List ℕ
bytes_text bytes = join_with_byte blank (map encode_upper (words_of_four bytes))
