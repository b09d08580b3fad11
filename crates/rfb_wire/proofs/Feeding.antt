-- A loop that feeds a piece, some bytes at a time, where memory for a text may be refused. `ClientReader::feed` is such
-- a loop.
use Rattle.std.proofs.Common.{◌≡◌, ℕ, zero, suc, ◌+◌, zero-add, ◌<◌, ◌≤◌, false, List, [], ◌∷◌, ◌++◌, length, take, drop, ◌⊎◌, inl, inr, Some, None, Result, sym, ap, subst, ◌∙◌, arith}
use Rattle.std.specs.Prelude.{MatchResult}
use Rattle.std.proofs.lemmas.List.{take-append-drop, length-drop, length-take}
use Rattle.std.proofs.Math.Seq.{drop-nil}
use Rattle.fault.specs.declared.kinds.Fault.{Fault}
use Rattle.byte_reading.specs.Reading.{Reading, after, taken, wants_more, fault_of}
use Rattle.byte_reading.proofs.ReadingLaws.{IsFed, after-append, fed_stops, fed_all, feeds_ok, taken-append}
use Rattle.rfb_wire.specs.ClientMessage.{ClientMessage}
use Rattle.rfb_wire.specs.Message.{losing, FeedsOrLoses}
use Rattle.rfb_wire.specs.ClientReader.{Uses, UsesOrLoses}
use Rattle.rfb_wire.proofs.Losing.{losing-twice, losing-after, losing-taken}

-- This many bytes of the piece were fed to a reading, or to the same that loses its text.
abbrev pub IsFedOrLoses : Reading ClientMessage → Reading ClientMessage → List ℕ → ℕ → Type 0
IsFedOrLoses start now piece i = IsFed start now piece i ⊎ IsFed (losing start) now piece i

losing_fed : (start now : Reading ClientMessage) (piece : List ℕ) (i : ℕ) → IsFed start now piece i → IsFed (losing start) (losing now) piece i
losing_fed start now piece i h =
    record {
      goes_on = losing-after start piece ∙ (ap losing h.goes_on ∙ sym (losing-after now (drop i piece)));
      count = losing-taken start piece ∙ (h.count ∙ ap (λ n. i + n) (sym (losing-taken now (drop i piece))));
    }

drop_beyond : (n i : ℕ) (xs : List ℕ) → drop n (drop i xs) ≡ drop (i + n) xs
drop_beyond n zero xs = ap (λ k. drop k xs) (sym (zero-add n))
drop_beyond n (suc i) [] = drop-nil n ∙ sym (drop-nil (suc i + n))
drop_beyond n (suc i) (x ∷ xs) = let e : suc i + n ≡ suc (i + n) = omega arith in drop_beyond n i xs ∙ ap (λ k. drop k (x ∷ xs)) (sym e)

fed_on : (start now new : Reading ClientMessage) (piece : List ℕ) (i n : ℕ) → IsFed start now piece i → Uses now new (drop i piece) n → IsFed start new piece (i + n)
fed_on start now new piece i n h u =
    let left : List ℕ = drop i piece in
    let parts : take n left ++ drop n left ≡ left = take-append-drop n left in
    let beyond : drop n left ≡ drop (i + n) piece = drop_beyond n i piece in
    let few : length (take n left) ≡ n = omega (arith, length-take n left, u.fits) in
    let goes : after now left ≡ after new (drop (i + n) piece) =
    ap (after now) (sym parts) ∙ (after-append now (take n left) (drop n left) ∙ (ap (λ r. after r (drop n left)) (sym u.goes_on) ∙ ap (after new) beyond)) in
    let counts : taken now left ≡ n + taken new (drop (i + n) piece) =
    ap (taken now) (sym parts) ∙ (taken-append now (take n left) (drop n left) (u.all ∙ sym few) ∙ cc (few, u.goes_on, beyond)) in
    record { goes_on = h.goes_on ∙ goes; count = omega (arith, h.count, counts) }

-- One more turn.
pub feeds_on : (start now new : Reading ClientMessage) (piece : List ℕ) (i n : ℕ) → IsFedOrLoses start now piece i → UsesOrLoses now new (drop i piece) n → IsFedOrLoses start new piece (i + n)
feeds_on start now new piece i n (inl h) (inl u) = inl (fed_on start now new piece i n h u)
feeds_on start now new piece i n (inl h) (inr u) = inr (fed_on (losing start) (losing now) new piece i n (losing_fed start now piece i h) u)
feeds_on start now new piece i n (inr h) (inl u) = inr (fed_on (losing start) now new piece i n h u)
feeds_on start now new piece i n (inr h) (inr u) =
    let P : Reading ClientMessage → Type 0 = λ r. IsFed r (losing now) piece i in
    inr (fed_on (losing start) (losing now) new piece i n (subst P (losing-twice start) (losing_fed (losing start) now piece i h)) u)

-- What is answered.
abbrev pub SaysSo : Reading ClientMessage → ℕ → Result ℕ Fault → Type 0
SaysSo now i answer = MatchResult answer (λ n. (n ≡ i) × (fault_of now ≡ None)) (λ fault. fault_of now ≡ Some fault)

-- It ends where no byte is wanted, or with the piece.
pub feed_stops : (start now : Reading ClientMessage) (piece : List ℕ) (i : ℕ) (answer : Result ℕ Fault) → IsFedOrLoses start now piece i → wants_more now ≡ false → SaysSo now i answer → FeedsOrLoses start now piece answer
feed_stops start now piece i answer (inl h) w says = inl (feeds_ok start now piece i answer (fed_stops start now piece i h w) says)
feed_stops start now piece i answer (inr h) w says = inr (feeds_ok (losing start) now piece i answer (fed_stops (losing start) now piece i h w) says)

pub feed_ends : (start now : Reading ClientMessage) (piece : List ℕ) (i : ℕ) (answer : Result ℕ Fault) → IsFedOrLoses start now piece i → length piece ≤ i → SaysSo now i answer → FeedsOrLoses start now piece answer
feed_ends start now piece i answer (inl h) le says = inl (feeds_ok start now piece i answer (fed_all start now piece i h le) says)
feed_ends start now piece i answer (inr h) le says = inr (feeds_ok (losing start) now piece i answer (fed_all (losing start) now piece i h le) says)

-- Some bytes are used, and no more than there are.
pub uses_within : (old new : Reading ClientMessage) (piece : List ℕ) (i n : ℕ) → UsesOrLoses old new (drop i piece) n → i ≤ length piece → (0 < n) × (i + n ≤ length piece)
uses_within old new piece i n (inl u) le = (u.some, omega (arith, u.fits, length-drop i piece))
uses_within old new piece i n (inr u) le = (u.some, omega (arith, u.fits, length-drop i piece))
