-- What a typed getter reads of a text that passed its parser. Ports and places are read so, each in its range.
use Rattle.std.proofs.Common.{◌∙◌, sym, ◌≡◌, ◌==◌, ap, arith, cond, drop, false, inl, inr, refl, subst, true, Bool, ℕ, [], ◌∷◌, Option, Some, None, Result, Ok, Err}
use Rattle.std.specs.Prelude.{IsSome, pos, unwrap_or}
use Rattle.std.specs.Str.Parse.{IsNumeral, ParsesUnsigned, starts_with_minus, without_leading_plus}
use Rattle.std.proofs.lemmas.Int.{ints}
use Rattle.clap.specs.Words.{IsSignedIn, IsUnsignedIn, ReadsOne, Text, first_value, one_text, without_minus}
use Rattle.clap.specs.declared.parser.matches.Found.{Found}
use Rattle.command_line.specs.Given.{IsIn, IsPause, IsPort, Spells}
use Rattle.command_line.specs.Values.{MayHavePause, MayHavePort}

-- r is a number in the range, and the text spells it
abbrev pub IsRead : Text → ℕ → ℕ → Option ℕ → Type 0
IsRead text low most r = (n : ℕ) × (r ≡ Some n) × Spells text n × IsIn low most n

minus_cut : (t : Text) → without_minus t ≡ cond (starts_with_minus t) (drop 1 t) t
minus_cut [] = refl
minus_cut (x ∷ xs) = go (x == 45)
  where
    go : (b : Bool) → unwrap_or (cond b (Some xs) None) (x ∷ xs) ≡ cond b xs (x ∷ xs)
    go true = refl
    go false = refl

pub port_is_read : {E : Type 0} (G : Text → Result ℕ E → Type 0) (t : Text) (r : Option ℕ) → ReadsOne G (without_minus t) r
    → ((u : Text) (x : Result ℕ E) → G u x → ParsesUnsigned 16 10 u x) → IsSignedIn (pos 1) (pos 65535) t → IsRead t 1 65535 r
port_is_read {E} G t r read only passed =
    go (starts_with_minus t) refl r (subst (λ (u : Text). ReadsOne G u r) (minus_cut t) read)
  where
    go : (b : Bool) → starts_with_minus t ≡ b → (o : Option ℕ) → ReadsOne G (cond (starts_with_minus t) (drop 1 t) t) o → IsRead t 1 65535 o
    go true minus o h =
        let low = rw minus at passed.2 in
        absurd (omega (arith, ints))
    go false minus (Some v) h =
        let low = rw minus at passed.2 in
        let high = rw minus at passed.3 in
        let numeral : IsNumeral 10 (without_leading_plus t) = rw minus at passed.0 in
        let parsed = only t (Ok v) (rw minus at h) in
        (v, refl, (numeral, parsed.1), (rw parsed.1 (omega (arith, ints)), rw parsed.1 (omega (arith, ints))))
    go false minus None h =
        let low = rw minus at passed.2 in
        let high = rw minus at passed.3 in
        let numeral : IsNumeral 10 (without_leading_plus t) = rw minus at passed.0 in
        absurd (only t (Err h.0) (rw minus at h.1) (numeral, omega (arith, ints)))

pub number_is_read : {E : Type 0} (G : Text → Result ℕ E → Type 0) (low most : ℕ) (t : Text) (r : Option ℕ) → ReadsOne G t r
    → ((u : Text) (x : Result ℕ E) → G u x → ParsesUnsigned 64 10 u x) → IsUnsignedIn low most t → IsRead t low most r
number_is_read {E} G low most t r read only passed = go r read
  where
    go : (o : Option ℕ) → ReadsOne G t o → IsRead t low most o
    go (Some v) h =
        let parsed = only t (Ok v) h in
        (v, refl, (passed.0, parsed.1), (rw parsed.1 passed.2, rw parsed.1 passed.3))
    go None h = absurd (only t (Err h.0) h.1 (passed.0, passed.1))

pub pause_is_read : {E : Type 0} (G : Text → Result ℕ E → Type 0) (f : Found) (name : Text) (r : Option ℕ) → MayHavePause f name
    → (one_text f name ≡ None → r ≡ None) → ((t : Text) → one_text f name ≡ Some t → ReadsOne G t r)
    → ((u : Text) (x : Result ℕ E) → G u x → ParsesUnsigned 64 10 u x) → IsPause (first_value f name) r
pause_is_read {E} G f name r (inl none) silent value only =
    subst (λ (o : Option Text). IsPause o r) (sym none.0) (silent none.1)
pause_is_read {E} G f name r (inr has) silent value only =
    subst (λ (o : Option Text). IsPause o r) (sym has.1) (number_is_read G 1 3600 has.0 r (value has.0 has.2) only has.3)

pub web_port_is_read : {E : Type 0} (G : Text → Result ℕ E → Type 0) (f : Found) (name : Text) (r : Option ℕ) → MayHavePort f name
    → (one_text f name ≡ None → r ≡ None) → ((t : Text) → one_text f name ≡ Some t → ReadsOne G t r)
    → ((u : Text) (x : Result ℕ E) → G u x → ParsesUnsigned 16 10 u x) → IsPort (first_value f name) r
web_port_is_read {E} G f name r (inl none) silent value only =
    subst (λ (o : Option Text). IsPort o r) (sym none.0) (silent none.1)
web_port_is_read {E} G f name r (inr has) silent value only =
    subst (λ (o : Option Text). IsPort o r) (sym has.1) (port_is_read G has.0 r (value (without_minus has.0) has.2) only has.3)

pub has_number : (t : Text) (low most : ℕ) (r : Option ℕ) → IsRead t low most r → IsSome r
has_number t low most r read = rw read.1 refl

-- a value that was read is the number
pub value_is : (t : Text) (low most : ℕ) (r : Option ℕ) (n : ℕ) → IsRead t low most r → r ≡ Some n → Spells t n × IsIn low most n
value_is t low most r n read is =
    let same : read.0 ≡ n = ap (λ o. unwrap_or o 0) (sym read.1 ∙ is) in
    (rw (← same) read.2, rw (← same) read.3)
