-- The data of a rectangle, and what follows them. One reader's bytes end where the next rectangle begins.
use Rattle.std.proofs.Common.{◌≡◌, ℕ, suc, true, List, [], ◌∷◌, ◌++◌, length, map, drop, inr, refl, sym, ap, subst, ◌∙◌, arith}
use Rattle.std.specs.Prelude.{◌⊎◌}
use Rattle.std.proofs.lemmas.List.{drop_all, map-append}
use Rattle.fault.specs.declared.kinds.Fault.{Fault}
use Rattle.byte_reading.specs.Reading.{Reading, Done, Faulty, Want, ◌>>=◌, after, taken, wants_more}
use Rattle.byte_reading.proofs.InOrder.{then_done, then_taken, then_faulty}
use Rattle.byte_reading.proofs.ReadingLaws.{after_bind_open, after-faulty, taken-nil, taken-open}
use Rattle.raster.specs.declared.size.Size.{Size}
use Rattle.raster.specs.Screen.{Canvas}
use Rattle.raster.specs.Update.{Paint, Resized}
use Rattle.painter.specs.Painter.{Painting, IsAsLarge, IsPaintedOver}
use Rattle.painter.proofs.Switches.{at_size}
use Rattle.rfb_wire.specs.ServerMessage.{ServerMessage}
use Rattle.host_decoder.specs.Data.{DataProgress, DataStands}
use Rattle.host_decoder.specs.Updates.{in_colours}
use Rattle.host_decoder.specs.declared.state.HostState.{HostState}
use Rattle.host_decoder.specs.declared.state.HostState.TheVariants as state
use Rattle.host_decoder.specs.Decoder.{GoesOn, Holds, Stands, Uses, behind, is_refused, rectangles, with_others}

-- ---- a rectangle is painted

pub paint_held : (start : Canvas) (painter : Painting) (sofar : List Paint) (paint painted : Paint) → paint ≡ in_colours painted → IsPaintedOver start (map in_colours sofar ++ paint ∷ []) painter → Holds start painter (sofar ++ painted ∷ [])
paint_held start painter sofar paint painted is stands =
    subst (λ ps. IsPaintedOver start ps painter) (ap (λ p. map in_colours sofar ++ p ∷ []) is ∙ sym (map-append in_colours sofar (painted ∷ []))) stands

-- After a new size the next rectangle is read.
pub size_goes_on : (old black new : Painting) (size : Size) (state : HostState) (start : Canvas) (sofar : List Paint) (left : ℕ) → IsAsLarge old black → Holds start old sofar
    → ((begun : Canvas) (paints : List Paint) → IsPaintedOver begun paints old → IsPaintedOver begun (paints ++ Resized size ∷ []) black)
    → ((begun : Canvas) (paints : List Paint) → Holds begun black paints → GoesOn black new state begun (rectangles black.width black.height paints left))
    → GoesOn old new state start (with_others old.width old.height sofar left (Done (Resized size)))
size_goes_on old black new size state start sofar left large holds painted next =
    let b : Paint = Resized size in
    let held : Holds start black (sofar ++ b ∷ []) = paint_held start black sofar b b refl (painted start (map in_colours sofar) holds) in
    at_size (λ v k. (is_refused state ≡ true) ⊎ Stands v k state start new (rectangles v k (sofar ++ b ∷ []) left)) black.width black.height old.width old.height large.width large.height (next start (sofar ++ b ∷ []) held)

-- ---- a step over its data

-- Where the first thing takes all bytes, the two together take them all.
pub taken_open : {A B : Type 0} (form : Reading A) (next : A → Reading B) (bs : List ℕ) → taken form bs ≡ length bs → taken (form >>= next) bs ≡ length bs
taken_open (Done x) next [] e = taken-nil (next x)
taken_open (Done x) next (b ∷ bs) e = absurd (omega arith)
taken_open (Faulty f) next [] e = refl
taken_open (Faulty f) next (b ∷ bs) e = absurd (omega arith)
taken_open (Want more) next [] e = refl
taken_open (Want more) next (b ∷ bs) e = ap suc (taken_open (more b) next bs (omega (arith, e)))

pub uses_whole : (old new : Painting) (state : HostState) (left used : ℕ) (bs : List ℕ) (start : Canvas) (sofar : List Paint) (r : Reading Paint) (p : Paint) → used ≡ taken r bs → after r bs ≡ Done p
    → GoesOn old new state start (behind old.width old.height sofar left p) → Uses old new state start (with_others old.width old.height sofar left r) bs used
uses_whole old new state left used bs start sofar r p count is next =
    let b : Paint → Reading ServerMessage = behind old.width old.height sofar left in
    record {
      next = b p;
      behind_ = record { says = rw count (then_done r b bs p is); count = λ fine. rw count (then_taken r b bs p is) };
      goes_on = next;
    }

pub uses_open : (old new : Painting) (reader : DataProgress) (left used : ℕ) (bs : List ℕ) (start : Canvas) (sofar : List Paint) (r : Reading Paint) → used ≡ taken r bs → wants_more (after r bs) ≡ true → DataStands reader start (map in_colours sofar) new (after r bs)
    → Uses old new (state.Pixels left reader) start (with_others old.width old.height sofar left r) bs used
uses_open old new reader left used bs start sofar r count wants stands =
    let b : Paint → Reading ServerMessage = behind old.width old.height sofar left in
    let all : taken r bs ≡ length bs = taken-open r bs wants in
    let over : drop used bs ≡ [] = drop_all used bs (omega (arith, count, all)) in
    let none : taken (after r bs >>= b) (drop used bs) ≡ 0 = ap (taken (after r bs >>= b)) over ∙ taken-nil (after r bs >>= b) in
    record {
      next = after r bs >>= b;
      behind_ = record {
        says = after_bind_open r b bs all ∙ ap (after (after r bs >>= b)) (sym over);
        count = λ f. omega (arith, taken_open r b bs all, count, all, none);
      };
      goes_on = inr (record { sofar = sofar; reading = after r bs; stands = stands; wants = wants; reads = refl });
    }

pub uses_faulty : (old new : Painting) (left : ℕ) (bs : List ℕ) (start : Canvas) (sofar : List Paint) (r : Reading Paint) (fault : Fault) → after r bs ≡ Faulty fault
    → Uses old new (state.Failed fault) start (with_others old.width old.height sofar left r) bs (length bs)
uses_faulty old new left bs start sofar r fault e =
    let b : Paint → Reading ServerMessage = behind old.width old.height sofar left in
    record {
      next = Faulty fault;
      behind_ = record { says = then_faulty r b bs fault e ∙ sym (after-faulty fault (drop (length bs) bs)); count = λ f. absurd cc };
      goes_on = inr refl;
    }
