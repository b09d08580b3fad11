-- The text of a room, as it is read: `Room::read` cuts it at its x, and `pixels` reads the two numbers.
use Rattle.std.proofs.Common.{◌≡◌, ℕ, ◌<◌, ◌≤◌, ◌^◌, true, false, List, length, zero, suc, Option, Some, None, Result, Ok, Err, ap, sym, subst, ◌∙◌, arith}
use Rattle.std.specs.Prelude.{get_or, nat_le, IfNone, MatchOption}
use Rattle.std.specs.Result.{result_ok}
use Rattle.std.proofs.lemmas.Bool.Decides.{nat_tests}
use Rattle.std.specs.Fmt.{decimal}
use Rattle.std.specs.Str.Parse.{AllDigits, digits_value, ParsesUnsigned}
use Rattle.std.proofs.lemmas.Fmt.{decimal-digits_value, decimal_digit, digits_decimal, first_decimal, parse-decimal}
use Rattle.std.proofs.lemmas.Str.Parse.{IsNumeralModel, numerals_by_value, tells_digits, parse_plain, not_in_digits}
use Rattle.std.proofs.lemmas.Str.Pattern.{IsSplitOnceResult, split_after}
use Rattle.settings.specs.Rooms.{room_text}
use denote.Ref.{Bor}

own : IsNumeralModel (AllDigits 10) (digits_value 10)
own = numerals_by_value (AllDigits 10) tells_digits

-- ---- one number

begins : (text : List ℕ) (n : ℕ) → 1 ≤ n → n ≤ 4096 → text ≡ decimal n → 48 < get_or text 0 0
begins text n low most e = subst (λ (t : List ℕ). 48 < get_or t 0 0) (sym e) (first_decimal n (omega (arith, low)) (omega (arith, most)))

some_is : (n x : ℕ) → Some n ≡ Some x → n ≡ x
some_is n x e = cc

pub low_is_none : (text : List ℕ) → nat_le (get_or text 0 0) 48 ≡ true → (n : ℕ) → 1 ≤ n → n ≤ 4096 → text ≡ decimal n → ⊥
low_is_none text is n low most e = let above = begins text n low most e in grind (arith, nat_tests)

pub none_read : {E : Type 0} (text : List ℕ) (r : Result ℕ E) → ParsesUnsigned 64 10 text r → None ≡ result_ok r → (n : ℕ) → n ≤ 4096 → text ≡ decimal n → ⊥
none_read text r p is n most e = let read = parse-decimal 64 n text r (omega (arith, most)) (omega (arith, most)) e p in absurd (let there : None ≡ Some n = is ∙ ap result_ok read in cc)

pub large_read : {E : Type 0} (text : List ℕ) (r : Result ℕ E) (number : ℕ) → ParsesUnsigned 64 10 text r → Some number ≡ result_ok r → 4096 < number → (n : ℕ) → n ≤ 4096 → text ≡ decimal n → ⊥
large_read text r number p is large n most e =
    let read = parse-decimal 64 n text r (omega (arith, most)) (omega (arith, most)) e p in
    let same : number ≡ n = some_is number n (is ∙ ap result_ok read) in
    absurd (omega (arith, same, large, most))

positive : (text : List ℕ) (n : ℕ) → text ≡ decimal n → 48 < get_or text 0 0 → 1 ≤ n
positive text zero e higher = absurd (omega (arith, higher, ap (λ t. get_or t 0 0) (e ∙ decimal_digit 0 (omega arith))))
positive text (suc m) e higher = omega arith

pub number_read : {E : Type 0} (text : List ℕ) (r : Result ℕ E) (n : ℕ) → ParsesUnsigned 64 10 text r → Some n ≡ result_ok r → nat_le (get_or text 0 0) 48 ≡ false → (1 ≤ n) × (text ≡ decimal n)
number_read {E = E} text (Ok x) n p is above =
    let higher : 48 < get_or text 0 0 = grind (arith, nat_tests) in
    let parsed : (AllDigits 10 text × (0 < length text) × (digits_value 10 text < 2 ^ 64)) × (x ≡ digits_value 10 text) = parse_plain own {E = E} 64 text (Ok x) p (λ plus. absurd (omega (arith, plus, higher))) in
    let same : n ≡ digits_value 10 text = some_is n x is ∙ parsed.1 in
    let spelled : text ≡ decimal n = sym (ap decimal same ∙ decimal-digits_value own text parsed.0.0 parsed.0.1 (λ at. absurd (omega (arith, at, higher))) parsed.0.2) in
    (positive text n spelled higher, spelled)
number_read text (Err e) n p is above = absurd (let there : Some n ≡ None = is in cc)

-- ---- cut at the x

-- The text of a room is cut at its x, since digits have none.
pub cut_at_x : (text : List ℕ) (width height : ℕ) (r : Option (Bor (List ℕ) × Bor (List ℕ))) → IsSplitOnceResult 120 text r → 1 ≤ width → width ≤ 4096 → text ≡ room_text width height
    → MatchOption r ⊥ (λ x. (x.0.now ≡ decimal width) × (x.1.now ≡ decimal height))
cut_at_x text width height r cut low most e =
    split_after 120 text (decimal width) (decimal height) r cut (omega arith) e (λ i lt. not_in_digits own (decimal width) 120 (digits_decimal own width (omega (arith, most))) (λ c. absurd (omega (arith, c.1))) i lt)

-- What is so anyway is so where there is nothing.
pub so_where_none : {A B : Type 0} (o : Option A) → B → IfNone o B
so_where_none None is = is
so_where_none (Some x) is = tt
