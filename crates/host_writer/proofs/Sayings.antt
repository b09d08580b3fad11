-- A spelling, and what is left of it. `Saying` owes that it is given from where it lies.
use Rattle.std.proofs.Common.{◌≡◌, ℕ, ◌+◌, ◌≤◌, List, ◌++◌, length, take, drop, refl, sym, ap, ◌∙◌, arith, length-append}
use Rattle.std.proofs.lemmas.List.{length-take, take_at, take_all, drop-append-le, drop-drop, drop_at}
use Rattle.rfb_wire.specs.Writing.{Writes}

-- What was written into a head stands at its front, and fits.
pub head_is : (spelling old new : List ℕ) (count : ℕ) → Writes spelling old new count → take count new ≡ spelling
head_is spelling old new count w = ap (take count) w.written ∙ take_at spelling (drop (length spelling) old) count (sym w.count_is)

pub head_fits : (spelling old new : List ℕ) (count : ℕ) → Writes spelling old new count → count ≤ length new
head_fits spelling old new count w = omega (arith, w.count_is, ap length w.written, length-append spelling (drop (length spelling) old))

-- How long it is.
pub said_length : (len : ℕ) (head text : List ℕ) → len ≤ length head → length (take len head ++ text) ≡ len + length text
said_length len head text le = omega (arith, le, length-append (take len head) text, length-take len head)

-- The next bytes are those of the head, or those of the text.
pub front_of_head : (first text front : List ℕ) (given : ℕ) → given ≤ length first → front ≡ drop given first → front ≡ take (length front) (drop given (first ++ text))
front_of_head first text front given le e =
    sym (ap (take (length front)) (drop-append-le given first text le) ∙ (take_at (drop given first) text (length front) (ap length (sym e)) ∙ sym e))

pub front_of_text : (first text front : List ℕ) (given past : ℕ) → given ≡ length first + past → front ≡ drop past text → front ≡ drop given (first ++ text)
front_of_text first text front given past e f =
    f ∙ (ap (drop past) (sym (drop_at first text (length first) refl)) ∙ (drop-drop past (length first) (first ++ text) ∙ ap (λ n. drop n (first ++ text)) (sym e)))

pub all_of_it : (front left : List ℕ) → front ≡ left → front ≡ take (length front) left
all_of_it front left e = sym (take_all (length front) left (omega (arith, ap length e)) ∙ sym e)
