-- One thing and then another, at the front of some bytes. Readers of messages of several parts rest on it.
use Rattle.std.proofs.Common.{◌≡◌, ℕ, ◌+◌, Bool, true, false, List, [], ◌∷◌, drop, refl, ap, sym, ◌∙◌, arith}
use Rattle.fault.specs.declared.kinds.Fault.{Fault}
use Rattle.byte_reading.specs.Reading.{Reading, Done, Faulty, Want, ◌>>=◌, after, taken, wants_more, unless}
use Rattle.byte_reading.proofs.ReadingLaws.{at_fault, done_is, faulty_is, faulty_is_not, after-done, after-faulty}

-- Where the first is whole, what follows is read after it.
pub then_done : {A B : Type 0} (form : Reading A) (next : A → Reading B) (bs : List ℕ) (x : A) → after form bs ≡ Done x → after (form >>= next) bs ≡ after (next x) (drop (taken form bs) bs)
then_done (Done y) next bs x e = let same : y ≡ x = done_is y x (sym (after-done y bs) ∙ e) in ap (λ v. after (next v) bs) same
then_done (Faulty f) next bs x e = absurd (faulty_is_not f x (sym (after-faulty f bs) ∙ e))
then_done (Want more) next [] x e = absurd cc
then_done (Want more) next (b ∷ bs) x e = then_done (more b) next bs x e

pub then_taken : {A B : Type 0} (form : Reading A) (next : A → Reading B) (bs : List ℕ) (x : A) → after form bs ≡ Done x → taken (form >>= next) bs ≡ taken form bs + taken (next x) (drop (taken form bs) bs)
then_taken (Done y) next bs x e =
    let same : y ≡ x = done_is y x (sym (after-done y bs) ∙ e) in
    let count : taken (next y) bs ≡ taken (next x) bs = ap (λ v. taken (next v) bs) same in
    omega arith
then_taken (Faulty f) next bs x e = absurd (faulty_is_not f x (sym (after-faulty f bs) ∙ e))
then_taken (Want more) next [] x e = absurd cc
then_taken (Want more) next (b ∷ bs) x e = let rest = then_taken (more b) next bs x e in omega (arith, rest)

-- Where bytes of the first are missing, or it is at fault, so are both.
pub then_wants : {A B : Type 0} (form : Reading A) (next : A → Reading B) (bs : List ℕ) → wants_more (after form bs) ≡ true → wants_more (after (form >>= next) bs) ≡ true
then_wants (Done y) next bs e = let no : false ≡ true = sym (ap wants_more (after-done y bs)) ∙ e in absurd cc
then_wants {A} (Faulty f) next bs e = let no : false ≡ true = sym (ap wants_more (after-faulty {A = A} f bs)) ∙ e in absurd cc
then_wants (Want more) next [] e = refl
then_wants (Want more) next (b ∷ bs) e = then_wants (more b) next bs e

pub then_faulty : {A B : Type 0} (form : Reading A) (next : A → Reading B) (bs : List ℕ) (f : Fault) → after form bs ≡ Faulty f → after (form >>= next) bs ≡ Faulty f
then_faulty (Done y) next bs f e = absurd (faulty_is_not f y (sym e ∙ after-done y bs))
then_faulty {A} (Faulty g) next bs f e = after-faulty g bs ∙ ap at_fault (faulty_is {A = A} g f (sym (after-faulty {A = A} g bs) ∙ e))
then_faulty (Want more) next [] f e = absurd cc
then_faulty (Want more) next (b ∷ bs) f e = then_faulty (more b) next bs f e

-- A field that passes its test, and one that doesn't.
pub unless_passes : {A : Type 0} (b : Bool) (f : Fault) (rest : Reading A) → b ≡ false → unless b f rest ≡ rest
unless_passes true f rest e = absurd cc
unless_passes false f rest e = refl

pub unless_fails : {A : Type 0} (b : Bool) (f : Fault) (rest : Reading A) → b ≡ true → unless b f rest ≡ Faulty f
unless_fails true f rest e = refl
unless_fails false f rest e = absurd cc
