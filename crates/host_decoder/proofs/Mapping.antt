-- Reading a thing, and telling it in another way. A rectangle's values are read, and told as a paint.
use Rattle.std.proofs.Common.{◌≡◌, ℕ, suc, List, [], ◌∷◌, Result, Ok, Err, refl, sym, ap, ◌∙◌}
use Rattle.fault.specs.declared.kinds.Fault.{Fault}
use Rattle.byte_reading.specs.Reading.{Reading, Done, Faulty, Want, ◌>>=◌, after, taken, fault_of, Feeds}
use Rattle.byte_reading.proofs.ReadingLaws.{after-done, after-faulty, done_is}
use Rattle.raster.specs.declared.rect.Rect.{Rect}
use Rattle.raster.specs.Update.{Paint, Put}
use Rattle.host_decoder.specs.Data.{putting, FedAs}

abbrev pub told : {A B : Type 0} → (A → B) → Reading A → Reading B
told f reading = reading >>= λ x. Done (f x)

pub told_after : {A B : Type 0} (f : A → B) (r : Reading A) (bs : List ℕ) → after (told f r) bs ≡ told f (after r bs)
told_after f (Done x) bs = after-done (f x) bs ∙ sym (ap (told f) (after-done x bs))
told_after {A} f (Faulty fault) bs = after-faulty fault bs ∙ sym (ap (told f) (after-faulty {A = A} fault bs))
told_after f (Want more) [] = refl
told_after f (Want more) (b ∷ bs) = told_after f (more b) bs

pub told_taken : {A B : Type 0} (f : A → B) (r : Reading A) (bs : List ℕ) → taken (told f r) bs ≡ taken r bs
told_taken f (Done x) bs = refl
told_taken f (Faulty fault) bs = refl
told_taken f (Want more) [] = refl
told_taken f (Want more) (b ∷ bs) = ap suc (told_taken f (more b) bs)

pub told_fault : {A B : Type 0} (f : A → B) (r : Reading A) → fault_of (told f r) ≡ fault_of r
told_fault f (Done x) = refl
told_fault f (Faulty fault) = refl
told_fault f (Want more) = refl

pub told_done : {A B : Type 0} (f : A → B) (r : Reading A) (y : B) → told f r ≡ Done y → (x : A) × (r ≡ Done x) × (f x ≡ y)
told_done f (Done x) y e = (x, refl, done_is (f x) y e)
told_done f (Faulty fault) y e = absurd cc
told_done f (Want more) y e = absurd cc

-- ---- the pixel values of a rectangle

-- What says which pixel values are put on the rectangle was fed a piece.
pub putting_fed : {A : Type 0} (f : A → List ℕ) (area : Rect) (old new : Reading A) (piece : List ℕ) (answer : Result ℕ Fault)
    → Feeds old new piece answer → (after (putting area (told f old)) piece ≡ putting area (told f new)) × FedAs (putting area (told f old)) piece answer
putting_fed f area old new piece (Ok used) h =
    let put : List ℕ → Paint = λ vs. Put area vs in
    let goes : after (putting area (told f old)) piece ≡ putting area (told f new) =
    told_after put (told f old) piece ∙ (ap (told put) (told_after f old piece) ∙ sym (ap (λ r. told put (told f r)) h.0)) in
    (goes, (h.1 ∙ sym (told_taken put (told f old) piece ∙ told_taken f old piece), ap fault_of goes ∙ (told_fault put (told f new) ∙ (told_fault f new ∙ h.2))))
putting_fed f area old new piece (Err fault) h =
    let put : List ℕ → Paint = λ vs. Put area vs in
    let goes : after (putting area (told f old)) piece ≡ putting area (told f new) =
    told_after put (told f old) piece ∙ (ap (told put) (told_after f old piece) ∙ sym (ap (λ r. told put (told f r)) h.0)) in
    (goes, goes ∙ ap (λ r. told put (told f r)) h.1)

pub putting_done : {A : Type 0} (f : A → List ℕ) (area : Rect) (r : Reading A) (painted : Paint) → Done painted ≡ putting area (told f r) → (x : A) × (r ≡ Done x) × (Put area (f x) ≡ painted)
putting_done f area r painted e =
    let outer = told_done (λ vs. Put area vs) (told f r) painted (sym e) in
    let inner = told_done f r outer.0 outer.1 in
    (inner.0, inner.1, ap (λ vs. Put area vs) inner.2 ∙ outer.2)
