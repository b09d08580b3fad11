-- Texts and their words. `script_bytes` joins words before it reads their digits.
use Rattle.std.proofs.Common.{◌≡◌, ◌≢◌, ℕ, suc, ◌<◌, ◌≤◌, drop, slice_index, drop-cons, Bool, true, false, cond, List, [], ◌∷◌, ◌++◌, length, Option, Some, None, Ok, Err, refl, ap, sym, ◌∙◌, arith}
use Rattle.std.specs.Prelude.{All, ◌==◌}
use Rattle.std.specs.List.{AllPass, concat, join_with_byte}
use Rattle.std.proofs.lemmas.List.{append-nil, drop_all}
use Rattle.std.proofs.lemmas.List.Elements.{All-cons, All-head, All-nil, All-tail}
use Rattle.std.proofs.lemmas.Bool.{eqb-true, eqb-false, ne_eqb}
use Rattle.hex.specs.Hex.{decode_of, is_hex_digit}
use Rattle.hex.specs.declared.error.FromHexError.{FromHexError}
use Rattle.hex.proofs.HexLemmas.{decode_of-ok}
use Rattle.replay.specs.Script.{blank, IsWord, IsDivided, IsHex}

abbrev NoBlank : List ℕ → Type 0
NoBlank word = All (λ b. b ≢ blank) word

-- ---- a text read from its front

abbrev with_first : ℕ → Option (List ℕ) → Option (List ℕ)
with_first b None = None
with_first b (Some bytes) = Some (b ∷ bytes)

-- All but the blanks of what is left of a text, where a word has to begin, or may go on. None where a word has to begin
-- and a blank or the end stands there.
abbrev at_blank : (begins : Bool) → Option (List ℕ) → Option (List ℕ)
at_blank true rest = None
at_blank false rest = rest

abbrev pub left_of : (begins : Bool) → List ℕ → Option (List ℕ)
left_of true [] = None
left_of false [] = Some []
left_of begins (b ∷ bs) = cond (b == blank) (at_blank begins (left_of true bs)) (with_first b (left_of false bs))

-- What was read before it goes in front.
abbrev pub behind : List ℕ → Option (List ℕ) → Option (List ℕ)
behind bytes None = None
behind bytes (Some more) = Some (bytes ++ more)

left_of-byte : (begins : Bool) (b : ℕ) (bs : List ℕ) → (b == blank) ≡ false → left_of begins (b ∷ bs) ≡ with_first b (left_of false bs)
left_of-byte true b bs e = rw e refl
left_of-byte false b bs e = rw e refl

pub left_of-blank : (begins : Bool) (b : ℕ) (bs : List ℕ) → b ≡ blank → left_of begins (b ∷ bs) ≡ at_blank begins (left_of true bs)
left_of-blank true b bs e = rw e refl
left_of-blank false b bs e = rw e refl

-- ---- what is left comes to words

-- What is left of a text, as the word that goes on and the words after it.
record Goes (begins : Bool) (text bytes : List ℕ) : Type 0 where
  word : List ℕ
  words : List (List ℕ)
  begun : begins ≡ true → 0 < length word
  plain : NoBlank word
  each : All IsWord words
  divided : text ≡ join_with_byte blank (word ∷ words)
  joined : bytes ≡ word ++ concat words

join-first : (b : ℕ) (word : List ℕ) (words : List (List ℕ)) → join_with_byte blank ((b ∷ word) ∷ words) ≡ b ∷ join_with_byte blank (word ∷ words)
join-first b word [] = refl
join-first b word (next ∷ words) = refl

with_first-some : (b : ℕ) (o : Option (List ℕ)) (bytes : List ℕ) → with_first b o ≡ Some bytes → (more : List ℕ) × (o ≡ Some more) × (bytes ≡ b ∷ more)
with_first-some b None bytes e = absurd cc
with_first-some b (Some more) bytes e = (more, refl, cc)

goes_at_blank : (begins : Bool) (b : ℕ) (text bytes : List ℕ) → b ≡ blank → at_blank begins (left_of true text) ≡ Some bytes → ((more : List ℕ) → left_of true text ≡ Some more → Goes true text more) → Goes begins (b ∷ text) bytes
goes_at_blank true b text bytes at e next = absurd cc
goes_at_blank false b text bytes at e next =
    let it = next bytes e in
    record {
      word = [];
      words = it.word ∷ it.words;
      begun = λ no. absurd cc;
      plain = All-nil (λ c. c ≢ blank);
      each = All-cons IsWord it.word it.words (it.begun refl, it.plain) it.each;
      divided = rw at (ap (λ rest. blank ∷ rest) it.divided);
      joined = it.joined;
    }

goes_on : (begins : Bool) (b : ℕ) (text bytes : List ℕ) (is : Bool) → (b == blank) ≡ is → cond is (at_blank begins (left_of true text)) (with_first b (left_of false text)) ≡ Some bytes
    → ((now : Bool) (more : List ℕ) → left_of now text ≡ Some more → Goes now text more) → Goes begins (b ∷ text) bytes
goes_on begins b text bytes true is e next = goes_at_blank begins b text bytes (eqb-true b blank is) e (next true)
goes_on begins b text bytes false is e next =
    let parts = with_first-some b (left_of false text) bytes e in
    let it = next false parts.0 parts.1 in
    record {
      word = b ∷ it.word;
      words = it.words;
      begun = λ _. omega arith;
      plain = All-cons (λ c. c ≢ blank) b it.word (eqb-false b blank is) it.plain;
      each = it.each;
      divided = ap (λ rest. b ∷ rest) it.divided ∙ sym (join-first b it.word it.words);
      joined = parts.2 ∙ ap (λ rest. b ∷ rest) it.joined;
    }

goes : (text : List ℕ) (begins : Bool) (bytes : List ℕ) → left_of begins text ≡ Some bytes → Goes begins text bytes
goes [] true bytes e = absurd cc
goes [] false bytes e =
    record { word = []; words = []; begun = λ no. absurd cc; plain = All-nil (λ c. c ≢ blank); each = All-nil IsWord; divided = refl; joined = cc }
goes (b ∷ text) true bytes e = goes_on true b text bytes (b == blank) refl e (λ now more. goes text now more)
goes (b ∷ text) false bytes e = goes_on false b text bytes (b == blank) refl e (λ now more. goes text now more)

-- A text that can be read from its front is divided into words, which were read.
pub divided_words : (text bytes : List ℕ) → left_of true text ≡ Some bytes → (words : List (List ℕ)) × IsDivided text words × (bytes ≡ concat words)
divided_words text bytes e =
    let it = goes text true bytes e in
    (it.word ∷ it.words, record { some = omega arith; each = All-cons IsWord it.word it.words (it.begun refl, it.plain) it.each; divided = it.divided }, it.joined)

-- ---- and words are read

read_word : (word rest bytes : List ℕ) → NoBlank word → left_of false rest ≡ Some bytes → left_of false (word ++ rest) ≡ Some (word ++ bytes)
read_word [] rest bytes plain e = e
read_word (b ∷ word) rest bytes plain e =
    left_of-byte false b (word ++ rest) (ne_eqb b blank (All-head (λ c. c ≢ blank) b word plain))
    ∙ ap (with_first b) (read_word word rest bytes (All-tail (λ c. c ≢ blank) b word plain) e)

read_begun : (word rest bytes : List ℕ) → IsWord word → left_of false rest ≡ Some bytes → left_of true (word ++ rest) ≡ Some (word ++ bytes)
read_begun [] rest bytes good e = absurd (omega (arith, good.0))
read_begun (b ∷ word) rest bytes good e =
    left_of-byte true b (word ++ rest) (ne_eqb b blank (All-head (λ c. c ≢ blank) b word good.1))
    ∙ ap (with_first b) (read_word word rest bytes (All-tail (λ c. c ≢ blank) b word good.1) e)

read_words : (words : List (List ℕ)) (word : List ℕ) → IsWord word → All IsWord words → left_of true (join_with_byte blank (word ∷ words)) ≡ Some (word ++ concat words)
read_words [] word good each = ap (left_of true) (sym (append-nil word)) ∙ read_begun word [] [] good refl
read_words (next ∷ words) word good each =
    read_begun word (blank ∷ join_with_byte blank (next ∷ words)) (next ++ concat words) good
    (left_of-blank false blank (join_with_byte blank (next ∷ words)) refl ∙ read_words words next (All-head IsWord next words each) (All-tail IsWord next words each))

pub divided_is_read : (text : List ℕ) (words : List (List ℕ)) → IsDivided text words → left_of true text ≡ Some (concat words)
divided_is_read text [] d = absurd (omega (arith, d.some))
divided_is_read text (word ∷ words) d = ap (left_of true) d.divided ∙ read_words words word (All-head IsWord word words d.each) (All-tail IsWord word words d.each)

-- ---- the digits of words

all_front : (p : ℕ → Bool) (xs ys : List ℕ) → AllPass p (xs ++ ys) → AllPass p xs
all_front p [] ys k = All-nil (λ x. p x ≡ true)
all_front p (x ∷ xs) ys k = All-cons (λ x. p x ≡ true) x xs (All-head (λ x. p x ≡ true) x (xs ++ ys) k) (all_front p xs ys (All-tail (λ x. p x ≡ true) x (xs ++ ys) k))

all_behind : (p : ℕ → Bool) (xs ys : List ℕ) → AllPass p (xs ++ ys) → AllPass p ys
all_behind p [] ys k = k
all_behind p (x ∷ xs) ys k = all_behind p xs ys (All-tail (λ x. p x ≡ true) x (xs ++ ys) k)

pub all_of_words : (p : ℕ → Bool) (words : List (List ℕ)) → AllPass p (concat words) → All (AllPass p) words
all_of_words p [] k = All-nil (AllPass p)
all_of_words p (word ∷ words) k = All-cons (AllPass p) word words (all_front p word (concat words) k) (all_of_words p words (all_behind p word (concat words) k))

-- ---- a text that was read up to a place

none_and_words : (text : List ℕ) (words : List (List ℕ)) → left_of true text ≡ None → IsDivided text words → ⊥
none_and_words text words e d = let same = divided_is_read text words d in cc

pub stops_at : (text bytes : List ℕ) (begins : Bool) (k : ℕ) → left_of true text ≡ behind bytes (left_of begins (drop k text)) → k < length text → slice_index text k ≡ blank → begins ≡ true
    → (words : List (List ℕ)) → ¬ IsDivided text words
stops_at text bytes begins k read room at b words d =
    none_and_words text words (read ∙ ap (behind bytes) (ap (λ now. left_of now (drop k text)) b ∙ ap (left_of true) (drop-cons text k 0 room) ∙ left_of-blank true (slice_index text k) (drop (suc k) text) at)) d

pub stops_short : (text bytes : List ℕ) (begins : Bool) (k : ℕ) → left_of true text ≡ behind bytes (left_of begins (drop k text)) → length text ≤ k → begins ≡ true
    → (words : List (List ℕ)) → ¬ IsDivided text words
stops_short text bytes begins k read all b words d =
    none_and_words text words (read ∙ ap (behind bytes) (ap (λ now. left_of now (drop k text)) b ∙ ap (left_of true) (drop_all k text all))) d

pub is_read : (text bytes : List ℕ) (begins : Bool) (k : ℕ) → left_of true text ≡ behind bytes (left_of begins (drop k text)) → length text ≤ k → begins ≡ false
    → (words : List (List ℕ)) × IsDivided text words × (bytes ≡ concat words)
is_read text bytes begins k read all b =
    divided_words text bytes
    (read ∙ ap (behind bytes) (ap (λ now. left_of now (drop k text)) b ∙ ap (left_of false) (drop_all k text all)) ∙ ap Some (append-nil bytes))

-- However a text is divided into words, they come to the same bytes.
pub same_joined : (text : List ℕ) (words others : List (List ℕ)) → IsDivided text words → IsDivided text others → concat words ≡ concat others
same_joined text words others d e = let read = divided_is_read text words d in let read_again = divided_is_read text others e in cc

-- The words' bytes decode, so the text is HEX for what they decode to.
pub is_hex : (text digits bytes : List ℕ) → (words : List (List ℕ)) × IsDivided text words × (digits ≡ concat words) → decode_of digits ≡ Ok bytes → IsHex text bytes
is_hex text digits bytes (words, divided, joined) decoded =
    let there : decode_of (concat words) ≡ Ok bytes = rw (← joined) decoded in
    record { words = words; divided = divided; digits = all_of_words is_hex_digit words (decode_of-ok (concat words) bytes there).1; joined = there }

-- They don't, so it is none.
pub is_no_hex : (text digits : List ℕ) (e : FromHexError) → (words : List (List ℕ)) × IsDivided text words × (digits ≡ concat words) → decode_of digits ≡ Err e → (bytes : List ℕ) → ¬ IsHex text bytes
is_no_hex text digits e (words, divided, joined) failed bytes hex =
    let same = same_joined text words hex.words divided hex.divided in
    let decoded = hex.joined in
    cc
