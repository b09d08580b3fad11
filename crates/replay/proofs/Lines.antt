-- Lines of a script: numbers, and words with a blank after them. `Line::read` splits a text so, and owes the line that
-- it says.
use Rattle.std.proofs.Common.{◌≡◌, ◌≢◌, ℕ, zero, suc, ◌<◌, ◌≤◌, ◌^◌, ◌⊎◌, inl, inr, Bool, true, false, List, [], ◌∷◌, ◌++◌, length, Option, Some, None, Result, Ok, Err, refl, ap, sym, subst, ◌∙◌, arith}
use Rattle.std.specs.Prelude.{All, IfSome, IfNone, codes, get_or, ◌==◌, ◌&&◌, ◌||◌, nat_lt, if◌then◌else◌}
use Rattle.std.specs.Result.{result_ok}
use Rattle.std.proofs.lemmas.Bool.Decides.{nat_tests}
use Rattle.std.specs.Fmt.{decimal}
use Rattle.std.specs.Str.Parse.{AllDigits, digits_value, ParsesUnsigned}
use Rattle.std.proofs.lemmas.Fmt.{decimal-digits_value, decimal_digit, decimal_injective, decimal_nonempty, digits_decimal, first_decimal, parse-decimal}
use Rattle.std.proofs.lemmas.Str.Parse.{IsNumeralModel, numerals_by_value, tells_digits, parse_plain, not_in_digits}
use Rattle.std.proofs.lemmas.List.Elements.{All-cons, All-from_get_or, All-head, All-nil, All-tail}
use Rattle.std.proofs.lemmas.Bool.{eqb-false}
use Rattle.std.proofs.lemmas.Slice.Eq.{bytes_eq-Decides}
use Rattle.std.specs.Str.{bytes_eq}
use Rattle.std.proofs.lemmas.Str.Pattern.{IsSplitOnceResult, split_parts}
use Rattle.std.specs.Borrow.{Bor}
use Rattle.replay.specs.Script.{blank, IsHex}
use Rattle.replay.specs.declared.line.Line.{Line}
use Rattle.replay.specs.declared.line.Line.TheVariants.{Screen, Host, Raise, Open, Greet, Viewer, Turn, Leave, Input, Dropped, Next}
use Rattle.replay.specs.declared.line.Access.{Access}
use Rattle.replay.specs.declared.line.Access.TheVariants.{Full, View}
use Rattle.replay.specs.Line.{IsInRange, ReadsBehind, Says, SaysBehind, access_word, word_of}

-- ---- numbers

own : IsNumeralModel (AllDigits 10) (digits_value 10)
own = numerals_by_value (AllDigits 10) tells_digits

no_plus : (n : ℕ) (text : List ℕ) → n < 2 ^ 64 → get_or text 0 0 ≡ 43 → text ≡ decimal n → ⊥
no_plus n text small plus e =
    not_in_digits own (decimal n) 43 (digits_decimal own n small) (λ r. absurd (omega (arith, r.0))) 0 (decimal_nonempty n small) (ap (λ t. get_or t 0 0) (sym e) ∙ plus)

no_zero : (n : ℕ) (text : List ℕ) → n < 2 ^ 64 → get_or text 0 0 ≡ 48 → 1 < length text → text ≡ decimal n → ⊥
no_zero zero text small at two e = absurd (omega (arith, two, ap length (e ∙ decimal_digit 0 (omega arith))))
no_zero (suc m) text small at two e = absurd (omega (arith, first_decimal (suc m) (omega arith) small, ap (λ t. get_or t 0 0) (sym e) ∙ at))

-- What `parse` would take beside.
abbrev pub padded : List ℕ → Bool
padded text = (get_or text 0 0 == 43) || ((get_or text 0 0 == 48) && nat_lt 1 (length text))

padded_begins : (first len : ℕ) → ((first == 43) || ((first == 48) && nat_lt 1 len)) ≡ true → (first ≡ 43) ⊎ ((first ≡ 48) × (1 < len))
padded_begins first len e = grind (arith, nat_tests)

plain_begins : (first len : ℕ) → ((first == 43) || ((first == 48) && nat_lt 1 len)) ≡ false → (first ≡ 43 → ⊥) × (first ≡ 48 → len ≤ 1)
plain_begins first len e = grind (arith, nat_tests)

pub padded_is_none : (text : List ℕ) → padded text ≡ true → (n : ℕ) → n < 2 ^ 64 → text ≡ decimal n → ⊥
padded_is_none text is n small e = elim (padded_begins (get_or text 0 0) (length text) is) [
  | inl plus ↦ no_plus n text small plus e
  | inr led ↦ no_zero n text small led.0 led.1 e
]

some_is : (n x : ℕ) → Some n ≡ Some x → n ≡ x
some_is n x e = cc

pub number_read : {E : Type 0} (text : List ℕ) (r : Result ℕ E) (o : Option ℕ) → ParsesUnsigned 64 10 text r → o ≡ result_ok r → padded text ≡ false → IfSome o (λ n. (n < 2 ^ 64) × (text ≡ decimal n))
number_read text (Err e) None p is plain = tt
number_read text (Err e) (Some n) p is plain = absurd cc
number_read text (Ok x) None p is plain = tt
number_read {E = E} text (Ok x) (Some n) p is plain =
    let begins = plain_begins (get_or text 0 0) (length text) plain in
    let parsed : (AllDigits 10 text × (0 < length text) × (digits_value 10 text < 2 ^ 64)) × (x ≡ digits_value 10 text) = parse_plain own {E = E} 64 text (Ok x) p begins.0 in
    let same : n ≡ digits_value 10 text = some_is n x is ∙ parsed.1 in
    let all = parsed.0 in
    (omega (arith, same, all.2), sym (ap decimal same ∙ decimal-digits_value own text all.0 all.1 (λ at. omega (arith, begins.1 at, all.1)) all.2))

pub none_read : {E : Type 0} (text : List ℕ) (r : Result ℕ E) (o : Option ℕ) → ParsesUnsigned 64 10 text r → o ≡ result_ok r → IfNone o ((n : ℕ) → n < 2 ^ 64 → text ≡ decimal n → ⊥)
none_read text r (Some n) p is = tt
none_read text r None p is = λ n small e. let read = parse-decimal 64 n text r small small e p in absurd (let there : None ≡ Some n = is ∙ ap result_ok read in cc)

pub same_number : (text : List ℕ) (m n : ℕ) → m < 2 ^ 64 → n < 2 ^ 64 → text ≡ decimal m → text ≡ decimal n → m ≡ n
same_number text m n low lown is also = decimal_injective m n low lown (sym is ∙ also)

-- ---- words

abbrev pub NoBlank : List ℕ → Type 0
NoBlank word = All (λ b. b ≢ blank) word

-- A text is cut at its first blank.
pub cut_found : (text : List ℕ) (r : Option (Bor (List ℕ) × Bor (List ℕ))) → IsSplitOnceResult 32 text r → IfSome r (λ x. (text ≡ x.0.now ++ (blank ∷ x.1.now)) × NoBlank x.0.now)
cut_found text None h = tt
cut_found text (Some x) h =
    let parts : (text ≡ x.0.now ++ (32 ∷ x.1.now)) × ((i : ℕ) → i < length x.0.now → get_or x.0.now i 0 ≢ 32) = split_parts 32 text (Some x) h (omega arith) in
    (parts.0, All-from_get_or (λ b. b ≢ blank) x.0.now 0 parts.1)

pub cut_none : (text : List ℕ) (r : Option (Bor (List ℕ) × Bor (List ℕ))) → IsSplitOnceResult 32 text r → IfNone r (NoBlank text)
cut_none text None h = All-from_get_or (λ b. b ≢ blank) text 0 (split_parts 32 text None h (omega arith))
cut_none text (Some x) h = tt

heads_same : (a b : ℕ) (xs ys : List ℕ) → a ∷ xs ≡ b ∷ ys → b ≡ a
heads_same a b xs ys e = cc

-- It is cut in one way.
pub same_cut : (word rest other behind : List ℕ) → NoBlank word → NoBlank other → word ++ (blank ∷ rest) ≡ other ++ (blank ∷ behind) → (word ≡ other) × (rest ≡ behind)
same_cut [] rest [] behind k l e = (refl, cc)
same_cut [] rest (b ∷ other) behind k l e = absurd (All-head (λ c. c ≢ blank) b other l (heads_same blank b rest (other ++ (blank ∷ behind)) e))
same_cut (a ∷ word) rest [] behind k l e = absurd (All-head (λ c. c ≢ blank) a word k (heads_same blank a behind (word ++ (blank ∷ rest)) (sym e)))
same_cut (a ∷ word) rest (b ∷ other) behind k l e =
    let there = same_cut word rest other behind (All-tail (λ c. c ≢ blank) a word k) (All-tail (λ c. c ≢ blank) b other l) cc in
    let head : a ≡ b = cc in
    (ap (λ w. a ∷ w) there.0 ∙ ap (λ c. c ∷ other) head, there.1)

-- One with no blank isn't cut.
pub no_cut : (text word rest : List ℕ) → NoBlank text → text ≡ word ++ (blank ∷ rest) → ⊥
no_cut text [] rest k e = All-head (λ c. c ≢ blank) blank rest (subst NoBlank e k) refl
no_cut text (b ∷ word) rest k e = no_cut (word ++ (blank ∷ rest)) word rest (All-tail (λ c. c ≢ blank) b (word ++ (blank ∷ rest)) (subst NoBlank e k)) refl

pub decimal_is_a_word : (n : ℕ) → n < 2 ^ 64 → NoBlank (decimal n)
decimal_is_a_word n small =
    All-from_get_or (λ b. b ≢ blank) (decimal n) 0 (λ i lt. not_in_digits own (decimal n) 32 (digits_decimal own n small) (λ r. absurd (omega (arith, r.0))) i lt)

pub none_so : {A : Type 0} (P : Type 0) (o : Option A) → P → IfNone o P
none_so P None p = p
none_so P (Some x) p = tt

pub at_none : {A : Type 0} (P : Type 0) (o : Option A) → o ≡ None → IfNone o P → P
at_none P None e p = p
at_none P (Some x) e p = absurd cc

pub none_on : {A : Type 0} (P Q : Type 0) (o : Option A) → (P → Q) → IfNone o P → IfNone o Q
none_on P Q None f p = f p
none_on P Q (Some x) f p = tt

abbrev is_plain : List ℕ → Bool
is_plain [] = true
is_plain (b ∷ bs) = if b == blank then false else is_plain bs

plain_if : (b : ℕ) (bs : List ℕ) (is : Bool) → (b == blank) ≡ is → (if is then false else is_plain bs) ≡ true → (is_plain bs ≡ true → NoBlank bs) → NoBlank (b ∷ bs)
plain_if b bs true is e next = absurd cc
plain_if b bs false is e next = All-cons (λ c. c ≢ blank) b bs (eqb-false b blank is) (next e)

plain_word : (bs : List ℕ) → is_plain bs ≡ true → NoBlank bs
plain_word [] e = All-nil (λ c. c ≢ blank)
plain_word (b ∷ bs) e = plain_if b bs (b == blank) refl e (plain_word bs)

-- ---- a number, and what the viewer may do

-- A text that is a viewer's number and its access.
pub bad_access : (text viewer word : List ℕ) → text ≡ viewer ++ (blank ∷ word) → NoBlank viewer → ((access : Access) → word ≡ access_word access → ⊥)
    → (n : ℕ) (access : Access) → 1 ≤ n → n ≤ 64 → text ≡ decimal n ++ (blank ∷ access_word access) → ⊥
bad_access text viewer word is plain other n access from to e = other access (same_cut viewer word (decimal n) (access_word access) plain (decimal_is_a_word n (omega arith)) (sym is ∙ e)).1

pub no_viewer : (text viewer word : List ℕ) → text ≡ viewer ++ (blank ∷ word) → NoBlank viewer → ((n : ℕ) → 1 ≤ n → n ≤ 64 → viewer ≡ decimal n → ⊥)
    → (n : ℕ) (access : Access) → 1 ≤ n → n ≤ 64 → text ≡ decimal n ++ (blank ∷ access_word access) → ⊥
no_viewer text viewer word is plain none n access from to e = none n from to (same_cut viewer word (decimal n) (access_word access) plain (decimal_is_a_word n (omega arith)) (sym is ∙ e)).0

pub neither : (word : List ℕ) → (word ≡ codes "full" → ⊥) → (word ≡ codes "view" → ⊥) → (access : Access) → word ≡ access_word access → ⊥
neither word a b Full e = a e
neither word a b View e = b e

-- ---- a screen

record IsScreen (text : List ℕ) : Type 0 where
  width : ℕ
  height : ℕ
  name : List ℕ
  width_fits : (1 ≤ width) × (width ≤ 4096)
  height_fits : (1 ≤ height) × (height ≤ 4096)
  name_fits : (1 ≤ length name) × (length name ≤ 255)
  is : text ≡ decimal width ++ (blank ∷ (decimal height ++ (blank ∷ name)))

screen_of : (text : List ℕ) (line : Line) → IsInRange line → word_of line ≡ codes "screen" → SaysBehind line text → IsScreen text
screen_of text (Screen width height name) r w says =
    record { width = width; height = height; name = name.now; width_fits = (r.0, r.1); height_fits = (r.2, r.3); name_fits = (r.4, r.5); is = says }
screen_of text (Host bytes) r w says = absurd cc
screen_of text Raise r w says = absurd says
screen_of text (Open viewer access) r w says = absurd cc
screen_of text (Greet viewer access) r w says = absurd cc
screen_of text (Viewer viewer bytes) r w says = absurd (omega (arith, ap (λ t. get_or t 0 0) w))
screen_of text (Turn viewer) r w says = absurd cc
screen_of text (Leave viewer) r w says = absurd cc
screen_of text Input r w says = absurd says
screen_of text Next r w says = absurd says
screen_of text (Dropped viewer) r w says = absurd cc

-- The text says no screen in range.
abbrev NoScreen : List ℕ → Type 0
NoScreen text = (line : Line) → IsInRange line → word_of line ≡ codes "screen" → ¬ SaysBehind line text

pub screen_none : (text : List ℕ) (o : Option Line) → o ≡ None → NoScreen text → ReadsBehind (codes "screen") text o
screen_none text None e none = record { some = tt; none = none }
screen_none text (Some line) e none = absurd cc

pub no_width : (text : List ℕ) → NoBlank text → NoScreen text
no_width text plain line r w says = let it = screen_of text line r w says in no_cut text (decimal it.width) (decimal it.height ++ (blank ∷ it.name)) plain it.is

width_cut : (text width rest : List ℕ) → text ≡ width ++ (blank ∷ rest) → NoBlank width → (it : IsScreen text) → (width ≡ decimal it.width) × (rest ≡ decimal it.height ++ (blank ∷ it.name))
width_cut text width rest is plain it = same_cut width rest (decimal it.width) (decimal it.height ++ (blank ∷ it.name)) plain (decimal_is_a_word it.width (omega (arith, it.width_fits))) (sym is ∙ it.is)

pub no_height : (text width rest : List ℕ) → text ≡ width ++ (blank ∷ rest) → NoBlank width → NoBlank rest → NoScreen text
no_height text width rest is plain none line r w says =
    let it = screen_of text line r w says in
    no_cut rest (decimal it.height) it.name none (width_cut text width rest is plain it).1

pub bad_width : (text width rest : List ℕ) → text ≡ width ++ (blank ∷ rest) → NoBlank width → ((n : ℕ) → 1 ≤ n → n ≤ 4096 → width ≡ decimal n → ⊥) → NoScreen text
bad_width text width rest is plain bad line r w says =
    let it = screen_of text line r w says in
    bad it.width it.width_fits.0 it.width_fits.1 (width_cut text width rest is plain it).0

height_cut : (text width rest height name : List ℕ) → text ≡ width ++ (blank ∷ rest) → NoBlank width → rest ≡ height ++ (blank ∷ name) → NoBlank height → (it : IsScreen text) → (height ≡ decimal it.height) × (name ≡ it.name)
height_cut text width rest height name is plain also too it =
    same_cut height name (decimal it.height) it.name too (decimal_is_a_word it.height (omega (arith, it.height_fits))) (sym also ∙ (width_cut text width rest is plain it).1)

pub bad_height : (text width rest height name : List ℕ) → text ≡ width ++ (blank ∷ rest) → NoBlank width → rest ≡ height ++ (blank ∷ name) → NoBlank height → ((n : ℕ) → 1 ≤ n → n ≤ 4096 → height ≡ decimal n → ⊥) → NoScreen text
bad_height text width rest height name is plain also too bad line r w says =
    let it = screen_of text line r w says in
    bad it.height it.height_fits.0 it.height_fits.1 (height_cut text width rest height name is plain also too it).0

pub empty_is : (n : ℕ) (r : Bool) → r ≡ (n == 0) → r ≡ true → n ≡ 0
empty_is n r is true_ = grind (arith, nat_tests)

pub bad_name : (text width rest height name : List ℕ) → text ≡ width ++ (blank ∷ rest) → NoBlank width → rest ≡ height ++ (blank ∷ name) → NoBlank height → (1 ≤ length name → length name ≤ 255 → ⊥) → NoScreen text
bad_name text width rest height name is plain also too bad line r w says =
    let it = screen_of text line r w says in
    let same : length name ≡ length it.name = ap length (height_cut text width rest height name is plain also too it).1 in
    bad (omega (arith, same, it.name_fits)) (omega (arith, same, it.name_fits))

-- ---- a viewer and its bytes

record IsViewer (text : List ℕ) : Type 0 where
  viewer : ℕ
  hex : List ℕ
  bytes : List ℕ
  fits : (1 ≤ viewer) × (viewer ≤ 64)
  is : text ≡ decimal viewer ++ (blank ∷ hex)
  spells : IsHex hex bytes

viewer_of : (text : List ℕ) (line : Line) → IsInRange line → word_of line ≡ codes "viewer" → SaysBehind line text → IsViewer text
viewer_of text (Screen width height name) r w says = absurd (omega (arith, ap (λ t. get_or t 0 0) w))
viewer_of text (Host bytes) r w says = absurd cc
viewer_of text Raise r w says = absurd says
viewer_of text (Open viewer access) r w says = absurd cc
viewer_of text (Greet viewer access) r w says = absurd cc
viewer_of text (Viewer viewer bytes) r w says = record { viewer = viewer; hex = says.0; bytes = bytes.items; fits = r; is = says.1; spells = says.2 }
viewer_of text (Turn viewer) r w says = absurd cc
viewer_of text (Leave viewer) r w says = absurd cc
viewer_of text Input r w says = absurd says
viewer_of text Next r w says = absurd says
viewer_of text (Dropped viewer) r w says = absurd cc

-- The text says no viewer with bytes.
abbrev NoViewer : List ℕ → Type 0
NoViewer text = (line : Line) → IsInRange line → word_of line ≡ codes "viewer" → ¬ SaysBehind line text

pub viewer_none : (text : List ℕ) → NoViewer text → ReadsBehind (codes "viewer") text None
viewer_none text none = record { some = tt; none = none }

pub no_bytes : (text : List ℕ) → NoBlank text → NoViewer text
no_bytes text plain line r w says = let it = viewer_of text line r w says in no_cut text (decimal it.viewer) it.hex plain it.is

viewer_cut : (text viewer hex : List ℕ) → text ≡ viewer ++ (blank ∷ hex) → NoBlank viewer → (it : IsViewer text) → (viewer ≡ decimal it.viewer) × (hex ≡ it.hex)
viewer_cut text viewer hex is plain it = same_cut viewer hex (decimal it.viewer) it.hex plain (decimal_is_a_word it.viewer (omega (arith, it.fits))) (sym is ∙ it.is)

pub bad_viewer : (text viewer hex : List ℕ) → text ≡ viewer ++ (blank ∷ hex) → NoBlank viewer → ((n : ℕ) → 1 ≤ n → n ≤ 64 → viewer ≡ decimal n → ⊥) → NoViewer text
bad_viewer text viewer hex is plain bad line r w says =
    let it = viewer_of text line r w says in
    bad it.viewer it.fits.0 it.fits.1 (viewer_cut text viewer hex is plain it).0

pub bad_hex : (text viewer hex : List ℕ) → text ≡ viewer ++ (blank ∷ hex) → NoBlank viewer → ((bytes : List ℕ) → ¬ IsHex hex bytes) → NoViewer text
bad_hex text viewer hex is plain bad line r w says =
    let it = viewer_of text line r w says in
    bad it.bytes (subst (λ t. IsHex t it.bytes) (sym (viewer_cut text viewer hex is plain it).1) it.spells)

-- ---- whole lines

word_is_plain : (line : Line) → NoBlank (word_of line)
word_is_plain (Screen width height name) = plain_word (codes "screen") refl
word_is_plain (Host bytes) = plain_word (codes "host") refl
word_is_plain Raise = plain_word (codes "raise") refl
word_is_plain (Open viewer access) = plain_word (codes "open") refl
word_is_plain (Greet viewer access) = plain_word (codes "greet") refl
word_is_plain (Viewer viewer bytes) = plain_word (codes "viewer") refl
word_is_plain (Turn viewer) = plain_word (codes "turn") refl
word_is_plain (Leave viewer) = plain_word (codes "leave") refl
word_is_plain Input = plain_word (codes "input") refl
word_is_plain Next = plain_word (codes "next") refl
word_is_plain (Dropped viewer) = plain_word (codes "dropped") refl

begins_so : (line : Line) (text : List ℕ) → (text ≡ codes "raise" → ⊥) → (text ≡ codes "input" → ⊥) → (text ≡ codes "next" → ⊥) → Says line text → (rest : List ℕ) × (text ≡ word_of line ++ (blank ∷ rest)) × SaysBehind line rest
begins_so (Screen width height name) text other also too says = says
begins_so (Host bytes) text other also too says = says
begins_so Raise text other also too says = absurd (other says)
begins_so (Open viewer access) text other also too says = says
begins_so (Greet viewer access) text other also too says = says
begins_so (Viewer viewer bytes) text other also too says = says
begins_so (Turn viewer) text other also too says = says
begins_so (Leave viewer) text other also too says = says
begins_so Input text other also too says = absurd (also says)
begins_so Next text other also too says = absurd (too says)
begins_so (Dropped viewer) text other also too says = says

pub not_word : (r : Bool) (text word : List ℕ) → r ≡ bytes_eq text word → r ≡ false → text ≡ word → ⊥
not_word r text word is false_ e = let yes = (bytes_eq-Decides text word).1 e in absurd cc

pub no_line : (text : List ℕ) → (text ≡ codes "raise" → ⊥) → (text ≡ codes "input" → ⊥) → (text ≡ codes "next" → ⊥) → NoBlank text → (line : Line) → IsInRange line → Says line text → ⊥
no_line text other also too plain line r says = let it = begins_so line text other also too says in no_cut text (word_of line) it.0 plain it.1

unknown : (line : Line) (text : List ℕ) → SaysBehind line text → (word : List ℕ) → word ≡ word_of line
    → (word ≡ codes "screen" → ⊥) → (word ≡ codes "host" → ⊥) → (word ≡ codes "open" → ⊥) → (word ≡ codes "greet" → ⊥) → (word ≡ codes "viewer" → ⊥) → (word ≡ codes "turn" → ⊥) → (word ≡ codes "leave" → ⊥) → (word ≡ codes "dropped" → ⊥) → ⊥
unknown (Screen width height name) text says word is a b c d e f g h = a is
unknown (Host bytes) text says word is a b c d e f g h = b is
unknown Raise text says word is a b c d e f g h = says
unknown (Open viewer access) text says word is a b c d e f g h = c is
unknown (Greet viewer access) text says word is a b c d e f g h = d is
unknown (Viewer viewer bytes) text says word is a b c d e f g h = e is
unknown (Turn viewer) text says word is a b c d e f g h = f is
unknown (Leave viewer) text says word is a b c d e f g h = g is
unknown Input text says word is a b c d e f g h = says
unknown Next text says word is a b c d e f g h = says
unknown (Dropped viewer) text says word is a b c d e f g h = h is

pub no_word : (text word rest : List ℕ) → (text ≡ codes "raise" → ⊥) → (text ≡ codes "input" → ⊥) → (text ≡ codes "next" → ⊥) → text ≡ word ++ (blank ∷ rest) → NoBlank word
    → (word ≡ codes "screen" → ⊥) → (word ≡ codes "host" → ⊥) → (word ≡ codes "open" → ⊥) → (word ≡ codes "greet" → ⊥) → (word ≡ codes "viewer" → ⊥) → (word ≡ codes "turn" → ⊥) → (word ≡ codes "leave" → ⊥) → (word ≡ codes "dropped" → ⊥)
    → (line : Line) → IsInRange line → Says line text → ⊥
no_word text word rest other also too is plain a b c d e f g h line r says =
    let it = begins_so line text other also too says in
    unknown line it.0 it.2 word (same_cut word rest (word_of line) it.0 plain (word_is_plain line) (sym is ∙ it.1)).0 a b c d e f g h
