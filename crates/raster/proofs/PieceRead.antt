-- A reader that takes a piece step by step.
use Rattle.std.proofs.Common.{◌≡◌, ℕ, ◌+◌, ◌-◌, ◌≤◌, List, ◌++◌, length, take, drop, Result, None, refl, sym, ap, ◌∙◌, arith}
use Rattle.std.specs.Prelude.{MatchResult, Some}
use Rattle.std.proofs.lemmas.List.{take-append-drop, length-take, length-drop}
use Rattle.fault.specs.declared.kinds.Fault.{Fault}
use Rattle.byte_reading.specs.Reading.{Reading, after, taken, fault_of}
use Rattle.byte_reading.proofs.ReadingLaws.{after-append, taken-append, feeds_ok}
use Rattle.raster.specs.Screen.{Canvas}
use Rattle.raster.specs.Reader.{Steps, Draws}

-- Of a piece there is left what has not been taken, and the rest of it was drawn.
pub record HasDrawn {P S A : Type 0} (ahead : P → S → Reading A) (Stands : P → Canvas → S → Type 0) (start now : P) (canvas : Canvas) (piece left : List ℕ) (sofar : S) : Type 0 where
  pub drawing : S
  pub goes_on : after (ahead start sofar) piece ≡ after (ahead now drawing) left
  pub count : taken (ahead start sofar) piece + length left ≡ length piece + taken (ahead now drawing) left
  pub stands : Stands now canvas drawing

pub drawn_none : {P S A : Type 0} (ahead : P → S → Reading A) (Stands : P → Canvas → S → Type 0) (start : P) (canvas : Canvas) (piece : List ℕ) (sofar : S) → Stands start canvas sofar → HasDrawn ahead Stands start start canvas piece piece sofar
drawn_none ahead Stands start canvas piece sofar stands = record { drawing = sofar; goes_on = refl; count = omega arith; stands = stands }

-- A step further.
pub drawn_more : {P S A : Type 0} (ahead : P → S → Reading A) (Stands : P → Canvas → S → Type 0) (start now next : P) (canvas after_it : Canvas) (piece left : List ℕ) (n : ℕ) (sofar : S) → n ≤ length left → HasDrawn ahead Stands start now canvas piece left sofar
    → ((d : S) → Stands now canvas d → Steps ahead Stands now next after_it (take n left) d) → HasDrawn ahead Stands start next after_it piece (drop n left) sofar
drawn_more {A = A} ahead Stands start now next canvas after_it piece left n sofar le h step =
    let s = step h.drawing h.stands in
    let xs : List ℕ = take n left in
    let ys : List ℕ = drop n left in
    let split : left ≡ xs ++ ys = sym (take-append-drop n left) in
    let r : Reading A = ahead now h.drawing in
    let here : after r left ≡ after (ahead next s.drawing) ys = ap (after r) split ∙ (after-append r xs ys ∙ ap (λ (t : Reading A). after t ys) s.goes.leads) in
    let more : taken r left ≡ length xs + taken (ahead next s.drawing) ys = ap (taken r) split ∙ (taken-append r xs ys s.goes.all ∙ ap (λ (t : Reading A). length xs + taken t ys) s.goes.leads) in
    record {
      drawing = s.drawing;
      goes_on = h.goes_on ∙ here;
      count = omega (arith, h.count, more, length-take n left, length-drop n left);
      stands = s.stands;
    }

-- It stops where nothing is left, or no byte is wanted.
pub drawn_stops : {P S A : Type 0} (ahead : P → S → Reading A) (Stands : P → Canvas → S → Type 0) (start now : P) (canvas : Canvas) (piece left : List ℕ) (answer : Result ℕ Fault) (sofar : S) → HasDrawn ahead Stands start now canvas piece left sofar
    → ((d : S) → (after (ahead now d) left ≡ ahead now d) × (taken (ahead now d) left ≡ 0))
    → ((d : S) → MatchResult answer (λ n. (n ≡ length piece - length left) × (fault_of (ahead now d) ≡ None)) (λ fault. fault_of (ahead now d) ≡ Some fault))
    → Draws ahead Stands start now canvas piece answer sofar
drawn_stops ahead Stands start now canvas piece left answer sofar h none e =
    let stays = none h.drawing in
    record {
      drawing = h.drawing;
      feeds = feeds_ok (ahead start sofar) (ahead now h.drawing) piece (length piece - length left) answer (sym (h.goes_on ∙ stays.0), omega (arith, h.count, stays.1)) (e h.drawing);
      stands = h.stands;
    }
