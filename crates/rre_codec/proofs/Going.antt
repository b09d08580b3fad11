-- How a reader goes on with bytes that it wants. `Reader::feed` says of its steps together what each says of its bytes.
use Rattle.std.proofs.Common.{◌≡◌, ℕ, zero, suc, ◌+◌, ◌-◌, ◌<◌, ◌≤◌, Bool, true, false, List, [], ◌++◌, length, Some, None, is_some, refl, sym, ap, ◌∙◌, arith}
use Rattle.std.specs.Prelude.{◌==◌}
use Rattle.std.proofs.lemmas.Bool.{lt-ltb, ne_eqb}
use Rattle.std.proofs.lemmas.List.{append-nil}
use Rattle.pixel_format.specs.PixelFormat.{PixelFormat}
use Rattle.byte_reading.specs.Reading.{Reading, Done, Faulty, Want, after, taken, wants_more, whole_of, fault_of}
use Rattle.fault.specs.declared.kinds.Fault.TheVariants.{SubrectOutside}
use Rattle.byte_reading.proofs.ReadingLaws.{after-append, after-done, after-faulty, done, done_is, wants_no_fault, wants_not_whole}
use Rattle.raster.specs.Encoding.{Drawing, Subrect, drawn}
use Rattle.raster.specs.Screen.{Canvas, LooksLike, kept}
use Rattle.raster.proofs.FixedLength.{Needs, needs_takes, needs_after, needs_wants}
use Rattle.rre_codec.specs.declared.stage.Stage.{Stage}
use Rattle.rre_codec.specs.declared.stage.Stage.TheVariants.{Head, Subrects, Outside}
use Rattle.rre_codec.specs.Ahead.{next_form, needed, is_open}
use Rattle.rre_codec.proofs.Steps.{stage_needs}

-- What is still needed, once some have come.
left_needs : (format : PixelFormat) (w h : ℕ) (stage : Stage) (sofar : Drawing) (begun : List ℕ) → is_open stage ≡ true → length begun ≤ needed format stage
    → Needs (needed format stage - length begun) (after (next_form format w h stage sofar) begun)
left_needs format w h stage sofar begun e le =
    needs_after (needed format stage) (needed format stage - length begun) (next_form format w h stage sofar) begun (stage_needs format w h stage sofar e) (omega arith)

pub open_wants : (format : PixelFormat) (w h : ℕ) (stage : Stage) (sofar : Drawing) (begun : List ℕ) → is_open stage ≡ true → length begun < needed format stage
    → wants_more (after (next_form format w h stage sofar) begun) ≡ true
open_wants format w h stage sofar begun e lt = needs_wants (needed format stage - length begun) (after (next_form format w h stage sofar) begun) (left_needs format w h stage sofar begun e (omega arith)) (omega arith)

-- Where no subrectangle left the rectangle there is no fault.
pub no_fault : (format : PixelFormat) (w h : ℕ) (stage : Stage) (sofar : Drawing) (begun : List ℕ) → (stage ≡ Outside → ⊥) → length begun < needed format stage → fault_of (after (next_form format w h stage sofar) begun) ≡ None
no_fault format w h Head sofar begun ok lt = wants_no_fault (after (next_form format w h Head sofar) begun) (open_wants format w h Head sofar begun refl lt)
no_fault format w h (Subrects zero) sofar begun ok lt = ap fault_of (after-done (record { background = sofar.background; subrects = sofar.subrects ++ [] }) begun)
no_fault format w h (Subrects (suc n)) sofar begun ok lt = wants_no_fault (after (next_form format w h (Subrects (suc n)) sofar) begun) (open_wants format w h (Subrects (suc n)) sofar begun (lt-ltb 0 (suc n) (omega arith)) lt)
no_fault format w h Outside sofar begun ok lt = absurd (ok refl)

pub at_fault : (begun : List ℕ) → fault_of (after {A = Drawing} (Faulty SubrectOutside) begun) ≡ Some SubrectOutside
at_fault begun = ap (λ (r : Reading Drawing). fault_of r) (after-faulty {A = Drawing} SubrectOutside begun)

-- Where none is left, or one has left the rectangle, no byte is wanted.
pub closed_wants : (format : PixelFormat) (w h : ℕ) (stage : Stage) (sofar : Drawing) (begun : List ℕ) → is_open stage ≡ false → wants_more (after (next_form format w h stage sofar) begun) ≡ false
closed_wants format w h Head sofar begun e = absurd cc
closed_wants format w h (Subrects zero) sofar begun e = ap (λ (r : Reading Drawing). wants_more r) (after-done (record { background = sofar.background; subrects = sofar.subrects ++ [] }) begun)
closed_wants format w h (Subrects (suc n)) sofar begun e = let t : true ≡ false = sym (lt-ltb 0 (suc n) (omega arith)) ∙ e in absurd cc
closed_wants format w h Outside sofar begun e = ap (λ (r : Reading Drawing). wants_more r) (after-faulty {A = Drawing} SubrectOutside begun)

by_cases : (b : Bool) (P : Type 0) → (b ≡ true → P) → (b ≡ false → P) → P
by_cases true P t f = t refl
by_cases false P t f = f refl

-- So a byte is wanted where the stage says so, and nowhere else.
pub open_is : (format : PixelFormat) (w h : ℕ) (stage : Stage) (sofar : Drawing) (begun : List ℕ) → length begun < needed format stage → is_open stage ≡ wants_more (after (next_form format w h stage sofar) begun)
open_is format w h stage sofar begun lt =
    by_cases (is_open stage) (is_open stage ≡ wants_more (after (next_form format w h stage sofar) begun))
    (λ e. e ∙ sym (open_wants format w h stage sofar begun e lt))
    (λ e. e ∙ sym (closed_wants format w h stage sofar begun e))

-- It is whole where no subrectangle is left.
pub whole_at : (format : PixelFormat) (w h n : ℕ) (sofar : Drawing) (begun : List ℕ) → length begun < needed format (Subrects n) → (n == 0) ≡ is_some (whole_of (after (next_form format w h (Subrects n) sofar) begun))
whole_at format w h zero sofar begun lt = sym (ap (λ (r : Reading Drawing). is_some (whole_of r)) (after-done (record { background = sofar.background; subrects = sofar.subrects ++ [] }) begun))
whole_at format w h (suc n) sofar begun lt = ne_eqb (suc n) 0 (λ e. absurd (omega arith)) ∙ sym (wants_not_whole (after (next_form format w h (Subrects (suc n)) sofar) begun) (open_wants format w h (Subrects (suc n)) sofar begun (lt-ltb 0 (suc n) (omega arith)) lt))

pub not_whole : (format : PixelFormat) (w h : ℕ) (stage : Stage) (sofar : Drawing) (begun : List ℕ) → ((n : ℕ) → stage ≡ Subrects n → ⊥) → length begun < needed format stage → is_some (whole_of (after (next_form format w h stage sofar) begun)) ≡ false
not_whole format w h Head sofar begun ok lt = wants_not_whole (after (next_form format w h Head sofar) begun) (open_wants format w h Head sofar begun refl lt)
not_whole format w h (Subrects n) sofar begun ok lt = absurd (ok n refl)
not_whole format w h Outside sofar begun ok lt = ap (λ (r : Reading Drawing). is_some (whole_of r)) (after-faulty {A = Drawing} SubrectOutside begun)

-- Bytes that are needed after those that have come.
pub goes_on : (format : PixelFormat) (w h : ℕ) (stage : Stage) (sofar : Drawing) (begun more joined : List ℕ) → joined ≡ begun ++ more → after (next_form format w h stage sofar) joined ≡ after (after (next_form format w h stage sofar) begun) more
goes_on format w h stage sofar begun more joined e = ap (after (next_form format w h stage sofar)) e ∙ after-append (next_form format w h stage sofar) begun more

-- Where none has come, it stands as it stood.
pub nothing_begun : {A : Type 0} (form : Reading A) (begun : List ℕ) → begun ≡ [] → after form begun ≡ form
nothing_begun form begun none = ap (λ bs. after form bs) none

pub all_taken : (format : PixelFormat) (w h : ℕ) (stage : Stage) (sofar : Drawing) (begun more : List ℕ) → is_open stage ≡ true → length begun + length more ≤ needed format stage
    → taken (after (next_form format w h stage sofar) begun) more ≡ length more
all_taken format w h stage sofar begun more e le =
    needs_takes (needed format stage - length begun) (after (next_form format w h stage sofar) begun) more (left_needs format w h stage sofar begun e (omega arith)) (omega arith)

pub never_whole : {A : Type 0} (r : Reading A) (x : A) → is_some (whole_of r) ≡ false → r ≡ Done x → ⊥
never_whole (Done y) x none e = cc
never_whole (Faulty f) x none e = cc
never_whole (Want more) x none e = cc

wants_not_done : {A : Type 0} (r : Reading A) (x : A) → wants_more r ≡ true → r ≡ Done x → ⊥
wants_not_done r x w e = never_whole r x (wants_not_whole r w) e

-- Then the canvas shows what was read.
pub whole_shows : (keeps : ℕ → ℕ) → (format : PixelFormat) (w h n : ℕ) (canvas : Canvas) (sofar drawing : Drawing) (begun : List ℕ) → length begun < needed format (Subrects n)
    → LooksLike w h canvas (kept keeps (drawn sofar)) → after (next_form format w h (Subrects n) sofar) begun ≡ Done drawing → LooksLike w h canvas (kept keeps (drawn drawing))
whole_shows keeps format w h zero canvas sofar drawing begun lt shows e =
    let read : done (record { background = sofar.background; subrects = sofar.subrects ++ [] }) ≡ done drawing =
    sym (after-done (record { background = sofar.background; subrects = sofar.subrects ++ [] }) begun) ∙ e in
    let same : sofar ≡ drawing = ap (λ (ss : List Subrect). record { background = sofar.background; subrects = ss }) (sym (append-nil sofar.subrects)) ∙ done_is _ drawing read in
    rw (← same) shows
whole_shows keeps format w h (suc n) canvas sofar drawing begun lt shows e =
    absurd (wants_not_done (after (next_form format w h (Subrects (suc n)) sofar) begun) drawing (open_wants format w h (Subrects (suc n)) sofar begun (lt-ltb 0 (suc n) (omega arith)) lt) e)
