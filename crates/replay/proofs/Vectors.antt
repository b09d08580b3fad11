-- The definitions compute what bytes are printed as, which bytes a text is HEX for, and what a line says.
use Rattle.std.proofs.Common.{◌≡◌, ℕ, List, [], ◌∷◌, refl, ap, sym, ◌∙◌}
use Rattle.std.specs.Prelude.{Some, None, codes}
use Rattle.std.specs.Borrow.{Bor}
use Rattle.std.specs.Fmt.{digits}
use Rattle.std.specs.List.{concat}
use Rattle.hex.specs.Hex.{encode_with, decode_pairs}
use Rattle.hex.specs.declared.error.FromHexError.TheVariants.{OddLength}
use Rattle.replay.specs.Script.{IsHex, bytes_text}
use Rattle.replay.specs.declared.line.Line.TheVariants.{Screen, Turn}
use Rattle.replay.specs.Line.{Says}
use Rattle.replay.proofs.Words.{divided_words, divided_is_read, is_hex, is_no_hex}

-- 00AB0CFF 07C0: upper-case digits, four bytes a word, the last shorter.
pub bytes_are_printed : bytes_text (0x00 ∷ 0xAB ∷ 0x0C ∷ 0xFF ∷ 0x07 ∷ 0xC0 ∷ []) ≡ 0x30 ∷ 0x30 ∷ 0x41 ∷ 0x42 ∷ 0x30 ∷ 0x43 ∷ 0x46 ∷ 0x46 ∷ 0x20 ∷ 0x30 ∷ 0x37 ∷ 0x43 ∷ 0x30 ∷ []
unfolding encode_with
bytes_are_printed = refl

-- Digits of either case; a byte may stand over two words.
pub digits_of_either_case : IsHex (0x61 ∷ 0x46 ∷ []) (0xAF ∷ [])
unfolding decode_pairs
digits_of_either_case = is_hex (0x61 ∷ 0x46 ∷ []) (0x61 ∷ 0x46 ∷ []) (0xAF ∷ []) (divided_words (0x61 ∷ 0x46 ∷ []) (0x61 ∷ 0x46 ∷ []) refl) refl

pub byte_over_two_words : IsHex (0x30 ∷ 0x20 ∷ 0x37 ∷ []) (0x07 ∷ [])
unfolding decode_pairs
byte_over_two_words = is_hex (0x30 ∷ 0x20 ∷ 0x37 ∷ []) (0x30 ∷ 0x37 ∷ []) (0x07 ∷ []) (divided_words (0x30 ∷ 0x20 ∷ 0x37 ∷ []) (0x30 ∷ 0x37 ∷ []) refl) refl

-- An odd number of digits is no bytes, nor is a text with two blanks side by side.
pub odd_digits : (bytes : List ℕ) → IsHex (0x37 ∷ []) bytes → ⊥
odd_digits bytes = is_no_hex (0x37 ∷ []) (0x37 ∷ []) OddLength (divided_words (0x37 ∷ []) (0x37 ∷ []) refl) refl bytes

none_is_some : {A : Type 0} (x : A) → None ≡ Some x → ⊥
none_is_some x e = cc

pub two_blanks : (bytes : List ℕ) → IsHex (0x30 ∷ 0x20 ∷ 0x20 ∷ 0x37 ∷ []) bytes → ⊥
two_blanks bytes h = none_is_some (concat h.words) (divided_is_read (0x30 ∷ 0x20 ∷ 0x20 ∷ 0x37 ∷ []) h.words h.divided)

-- `turn 64` is a turn of viewer 64, and `screen 2 1 a b` a screen of 2 by 1 with a name of two words.
pub turn_of_a_viewer : Says (Turn 64) (codes "turn 64")
unfolding digits
turn_of_a_viewer = (codes "64", refl, refl)

pub screen_and_its_name : (name : Bor (List ℕ)) → name.now ≡ codes "a b" → Says (Screen 2 1 name) (codes "screen 2 1 a b")
unfolding digits
screen_and_its_name name is = (codes "2 1 a b", refl, ap (λ t. 50 ∷ 32 ∷ 49 ∷ 32 ∷ t) (sym is))

-- A leading zero is no part of a number.
pub no_leading_zero : Says (Turn 7) (codes "turn 07") → ⊥
unfolding digits
no_leading_zero says = absurd (let e : codes "07" ≡ says.0 = cc in let f : codes "07" ≡ codes "7" = e ∙ says.2 in cc)
