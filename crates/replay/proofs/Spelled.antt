-- Bytes in upper-case hex, one more at a time. `shown` prints so.
use Rattle.std.proofs.Common.{◌≡◌, ◌≢◌, ℕ, ◌+◌, ◌/◌, ◌%◌, ◌<◌, List, [], ◌∷◌, ◌++◌, length, slice_index, refl, ap, sym, ◌∙◌, arith, append_assoc, take}
use Rattle.std.proofs.lemmas.List.{length-take-le, take_more}
use Rattle.std.specs.Prelude.{map}
use Rattle.std.specs.List.{join_with_byte}
use Rattle.hex.specs.Hex.{encode_upper, encode_with, upper_digits}
use Rattle.replay.specs.Script.{blank, words_of_four, bytes_text}

-- The two digits of a byte.
abbrev pub digits_of : ℕ → List ℕ
digits_of b = encode_upper (b ∷ [])

join-word : (word : List ℕ) (words : List (List ℕ)) → 0 < length words → join_with_byte blank (word ∷ words) ≡ word ++ blank ∷ join_with_byte blank words
join-word word [] l = absurd (omega arith)
join-word word (next ∷ words) l = refl

some_words : (b : ℕ) (bs : List ℕ) → 0 < length (map encode_upper (words_of_four (b ∷ bs)))
some_words b [] = omega arith
some_words b (c ∷ []) = omega arith
some_words b (c ∷ d ∷ []) = omega arith
some_words b (c ∷ d ∷ e ∷ bs) = omega arith

text-word : (a b c d e : ℕ) (bs : List ℕ) → bytes_text (a ∷ b ∷ c ∷ d ∷ e ∷ bs) ≡ encode_upper (a ∷ b ∷ c ∷ d ∷ []) ++ blank ∷ bytes_text (e ∷ bs)
text-word a b c d e bs = join-word (encode_upper (a ∷ b ∷ c ∷ d ∷ [])) (map encode_upper (words_of_four (e ∷ bs))) (some_words e bs)

more_behind : (a b c d e : ℕ) (bs more : List ℕ) (x : ℕ) → bytes_text ((e ∷ bs) ++ x ∷ []) ≡ bytes_text (e ∷ bs) ++ more
    → bytes_text ((a ∷ b ∷ c ∷ d ∷ e ∷ bs) ++ x ∷ []) ≡ bytes_text (a ∷ b ∷ c ∷ d ∷ e ∷ bs) ++ more
more_behind a b c d e bs more x same =
    text-word a b c d e (bs ++ x ∷ []) ∙ ap (λ rest. encode_upper (a ∷ b ∷ c ∷ d ∷ []) ++ blank ∷ rest) same
    ∙ sym (append_assoc (encode_upper (a ∷ b ∷ c ∷ d ∷ [])) (blank ∷ bytes_text (e ∷ bs)) more) ∙ ap (λ rest. rest ++ more) (sym (text-word a b c d e bs))

-- A byte that begins a word, but the first.
pub text-new_word : (bs : List ℕ) (x : ℕ) → 0 < length bs → length bs % 4 ≡ 0 → bytes_text (bs ++ x ∷ []) ≡ bytes_text bs ++ blank ∷ digits_of x
unfolding encode_with
text-new_word [] x some four = absurd (omega arith)
text-new_word (a ∷ []) x some four = absurd (omega arith)
text-new_word (a ∷ b ∷ []) x some four = absurd (omega arith)
text-new_word (a ∷ b ∷ c ∷ []) x some four = absurd (omega arith)
text-new_word (a ∷ b ∷ c ∷ d ∷ []) x some four = refl
text-new_word (a ∷ b ∷ c ∷ d ∷ e ∷ bs) x some four = more_behind a b c d e bs (blank ∷ digits_of x) x (text-new_word (e ∷ bs) x (omega arith) (omega arith))

-- Any other.
pub text-same_word : (bs : List ℕ) (x : ℕ) → (0 < length bs → length bs % 4 ≢ 0) → bytes_text (bs ++ x ∷ []) ≡ bytes_text bs ++ digits_of x
unfolding encode_with
text-same_word [] x goes_on = refl
text-same_word (a ∷ []) x goes_on = refl
text-same_word (a ∷ b ∷ []) x goes_on = refl
text-same_word (a ∷ b ∷ c ∷ []) x goes_on = refl
text-same_word (a ∷ b ∷ c ∷ d ∷ []) x goes_on = absurd (goes_on (omega arith) (omega arith))
text-same_word (a ∷ b ∷ c ∷ d ∷ e ∷ bs) x goes_on =
    more_behind a b c d e bs (digits_of x) x (text-same_word (e ∷ bs) x (λ some four. goes_on (omega arith) (omega arith)))

-- The text of the bytes before a place, and the byte there.
pub text-more : (bs : List ℕ) (k : ℕ) → k < length bs → (0 < k → k % 4 ≢ 0) → bytes_text (take (k + 1) bs) ≡ bytes_text (take k bs) ++ digits_of (slice_index bs k)
text-more bs k room goes_on =
    let len : length (take k bs) ≡ k = length-take-le k bs (omega arith) in
    ap bytes_text (take_more bs k 0 room) ∙ text-same_word (take k bs) (slice_index bs k) (rw len goes_on)

pub text-more_word : (bs : List ℕ) (k : ℕ) → k < length bs → 0 < k → k % 4 ≡ 0 → bytes_text (take (k + 1) bs) ≡ (bytes_text (take k bs) ++ blank ∷ []) ++ digits_of (slice_index bs k)
text-more_word bs k room some four =
    let len : length (take k bs) ≡ k = length-take-le k bs (omega arith) in
    ap bytes_text (take_more bs k 0 room) ∙ text-new_word (take k bs) (slice_index bs k) (rw len some) (rw len four) ∙ sym (append_assoc (bytes_text (take k bs)) (blank ∷ []) (digits_of (slice_index bs k)))

-- A byte's two digits are pushed, each as a character of one byte.
pub pushed : (before mid after : List ℕ) (b high low : ℕ) (first second : List ℕ) → mid ≡ before ++ first → first ≡ high ∷ [] → high ≡ slice_index upper_digits (b / 16)
    → after ≡ mid ++ second → second ≡ low ∷ [] → low ≡ slice_index upper_digits (b % 16) → after ≡ before ++ digits_of b
unfolding encode_with
pushed before mid after b high low first second m f h a s l =
    a ∙ ap (λ x. x ++ second) m ∙ ap (λ x. (before ++ first) ++ x) s ∙ ap (λ x. (before ++ x) ++ low ∷ []) f ∙ append_assoc before (high ∷ []) (low ∷ [])
    ∙ ap (λ d. before ++ d ∷ low ∷ []) h ∙ ap (λ d. before ++ slice_index upper_digits (b / 16) ∷ d ∷ []) l
