-- Numbers of places, as they are spelled: `number` answers the one that a text spells.
use Rattle.std.proofs.Common.{◌≡◌, ℕ, zero, suc, ◌<◌, ◌≤◌, ◌^◌, ◌⊎◌, inl, inr, Bool, true, false, List, length, Option, Some, None, Result, Ok, Err, ap, sym, ◌∙◌, arith}
use Rattle.std.specs.Prelude.{IfSome, IfNone, get_or, ◌==◌, ◌&&◌, ◌||◌, nat_lt}
use Rattle.std.specs.Result.{result_ok}
use Rattle.std.proofs.lemmas.Bool.Decides.{nat_tests}
use Rattle.std.specs.Fmt.{decimal}
use Rattle.std.specs.Str.Parse.{AllDigits, digits_value, ParsesUnsigned}
use Rattle.std.proofs.lemmas.Fmt.{decimal-digits_value, decimal_digit, decimal_nonempty, digits_decimal, first_decimal, parse-decimal}
use Rattle.std.proofs.lemmas.Str.Parse.{IsNumeralModel, numerals_by_value, tells_digits, parse_plain, not_in_digits}

own : IsNumeralModel (AllDigits 10) (digits_value 10)
own = numerals_by_value (AllDigits 10) tells_digits

no_plus : (n : ℕ) (text : List ℕ) → n < 2 ^ 64 → get_or text 0 0 ≡ 43 → text ≡ decimal n → ⊥
no_plus n text small plus e =
    not_in_digits own (decimal n) 43 (digits_decimal own n small) (λ r. absurd (omega (arith, r.0))) 0 (decimal_nonempty n small) (ap (λ t. get_or t 0 0) (sym e) ∙ plus)

no_zero : (n : ℕ) (text : List ℕ) → n < 2 ^ 64 → get_or text 0 0 ≡ 48 → 1 < length text → text ≡ decimal n → ⊥
no_zero zero text small at two e = absurd (omega (arith, two, ap length (e ∙ decimal_digit 0 (omega arith))))
no_zero (suc m) text small at two e = absurd (omega (arith, first_decimal (suc m) (omega arith) small, ap (λ t. get_or t 0 0) (sym e) ∙ at))

-- What `parse` would take beside.
abbrev pub padded : List ℕ → Bool
padded text = (get_or text 0 0 == 43) || ((get_or text 0 0 == 48) && nat_lt 1 (length text))

padded_begins : (first len : ℕ) → ((first == 43) || ((first == 48) && nat_lt 1 len)) ≡ true → (first ≡ 43) ⊎ ((first ≡ 48) × (1 < len))
padded_begins first len e = grind (arith, nat_tests)

plain_begins : (first len : ℕ) → ((first == 43) || ((first == 48) && nat_lt 1 len)) ≡ false → (first ≡ 43 → ⊥) × (first ≡ 48 → len ≤ 1)
plain_begins first len e = grind (arith, nat_tests)

pub padded_is_none : (text : List ℕ) → padded text ≡ true → (n : ℕ) → n < 2 ^ 64 → text ≡ decimal n → ⊥
padded_is_none text is n small e = elim (padded_begins (get_or text 0 0) (length text) is) [
  | inl plus ↦ no_plus n text small plus e
  | inr led ↦ no_zero n text small led.0 led.1 e
]

some_is : (n x : ℕ) → Some n ≡ Some x → n ≡ x
some_is n x e = cc

pub number_read : {E : Type 0} (text : List ℕ) (r : Result ℕ E) (o : Option ℕ) → ParsesUnsigned 64 10 text r → o ≡ result_ok r → padded text ≡ false → IfSome o (λ n. (n < 2 ^ 64) × (text ≡ decimal n))
number_read text (Err e) None p is plain = tt
number_read text (Err e) (Some n) p is plain = absurd cc
number_read text (Ok x) None p is plain = tt
number_read {E = E} text (Ok x) (Some n) p is plain =
    let begins = plain_begins (get_or text 0 0) (length text) plain in
    let parsed : (AllDigits 10 text × (0 < length text) × (digits_value 10 text < 2 ^ 64)) × (x ≡ digits_value 10 text) = parse_plain own {E = E} 64 text (Ok x) p begins.0 in
    let same : n ≡ digits_value 10 text = some_is n x is ∙ parsed.1 in
    let all = parsed.0 in
    (omega (arith, same, all.2), sym (ap decimal same ∙ decimal-digits_value own text all.0 all.1 (λ at. omega (arith, begins.1 at, all.1)) all.2))

pub none_read : {E : Type 0} (text : List ℕ) (r : Result ℕ E) (o : Option ℕ) → ParsesUnsigned 64 10 text r → o ≡ result_ok r → IfNone o ((n : ℕ) → n < 2 ^ 64 → text ≡ decimal n → ⊥)
none_read text r (Some n) p is = tt
none_read text r None p is = λ n small e. let read = parse-decimal 64 n text r small small e p in absurd (let there : None ≡ Some n = is ∙ ap result_ok read in cc)
