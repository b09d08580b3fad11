-- A step of a decoder over some bytes. `HostDecoder::feed` takes a piece by such steps.
use Rattle.std.proofs.Common.{◌≡◌, ℕ, ◌+◌, ◌-◌, ◌<◌, ◌≤◌, true, List, [], ◌++◌, min, length, take, drop, ◌⊎◌, inl, inr, sym, ap, subst, ◌∙◌, arith}
use Rattle.std.proofs.lemmas.List.{length-append, length-take, take-append-drop}
use Rattle.byte_reading.specs.Reading.{Reading, Done, after, taken, padding}
use Rattle.byte_reading.proofs.ReadingLaws.{after-append, padding-after, padding-taken, taken-append}
use Rattle.raster.specs.Screen.{Canvas}
use Rattle.raster.specs.Update.{Paint}
use Rattle.painter.specs.Painter.{Painting}
use Rattle.rfb_wire.proofs.TextForms.{text_after, text_taken}
use Rattle.rfb_wire.specs.ServerMessage.{ServerMessage, ServerCutText}
use Rattle.host_decoder.specs.Parts.{Passed, len_of, message_of}
use Rattle.host_decoder.specs.declared.part.HostPart.{HostPart}
use Rattle.host_decoder.specs.declared.state.HostState.{HostState}
use Rattle.host_decoder.specs.declared.state.HostState.TheVariants as state
use Rattle.host_decoder.specs.Decoder.{GoesOn, Holds, InPart, IsBehind, IsSuited, StandsUnpainted, Uses, form_of, is_refused, keeping, passing}
use Rattle.host_decoder.proofs.HostParts.{part_takes}

pub behind_first : (r : Reading ServerMessage) (bs : List ℕ) (n : ℕ) → n ≤ length bs → taken r (take n bs) ≡ n → IsBehind r (after r (take n bs)) bs n
behind_first r bs n le all =
    let xs : List ℕ = take n bs in
    let ys : List ℕ = drop n bs in
    let parts : bs ≡ xs ++ ys = sym (take-append-drop n bs) in
    let few : length xs ≡ n = omega (arith, length-take n bs) in
    let more : taken r bs ≡ length xs + taken (after r xs) ys = ap (taken r) parts ∙ taken-append r xs ys (all ∙ sym few) in
    record { says = ap (after r) parts ∙ after-append r xs ys; count = λ fine. omega (arith, more, few) }

-- ---- fields

-- Bytes of a part, of which more are missing.
pub fields_use : (painter : Painting) (p : HostPart) (begun bs next : List ℕ) (fields : HostPart × List ℕ) (left n : ℕ) (start : Canvas) (r : Reading ServerMessage) → length begun + left ≡ len_of p → n ≡ min (length bs) left → n < left → next ≡ take n bs → fields ≡ (p, begun ++ next)
    → InPart painter.width painter.height p begun start painter r → Uses painter painter (state.Fields fields) start r bs n
fields_use painter p begun bs next fields left n start r all e lt f is here =
    let w : ℕ = painter.width in
    let h : ℕ = painter.height in
    let xs : List ℕ = take n bs in
    let few : length xs ≡ n = omega (arith, length-take n bs) in
    let form : Reading ServerMessage = form_of w h here.sofar p in
    let taken_ : taken r xs ≡ n = ap (λ (q : Reading ServerMessage). taken q xs) here.reads ∙ (part_takes w h here.sofar p begun xs (omega arith) ∙ few) in
    let reads : after r xs ≡ after form (begun ++ xs) = ap (λ (q : Reading ServerMessage). after q xs) here.reads ∙ sym (after-append form begun xs) in
    let there : InPart w h p (begun ++ xs) start painter (after r xs) = record { sofar = here.sofar; holds = here.holds; suited = here.suited; missing = omega (arith, length-append begun xs, few); reads = reads } in
    let same : fields ≡ (p, begun ++ xs) = is ∙ ap (λ t. (p, begun ++ t)) f in
    record {
      next = after r xs;
      behind_ = behind_first r bs n (omega arith) taken_;
      goes_on = inr (subst (λ (g : HostPart × List ℕ). InPart w h g.0 g.1 start painter (after r xs)) (sym same) there);
    }

-- The last bytes of a part.
pub fields_end : (old new : Painting) (state : HostState) (p : HostPart) (begun bs next all : List ℕ) (left n : ℕ) (start : Canvas) (r : Reading ServerMessage) → length begun + left ≡ len_of p → n ≡ min (length bs) left → left ≤ n → next ≡ take n bs → all ≡ begun ++ next
    → InPart old.width old.height p begun start old r → ((sofar : List Paint) → Holds start old sofar → IsSuited p sofar → GoesOn old new state start (after (form_of old.width old.height sofar p) all)) → Uses old new state start r bs n
fields_end old new state p begun bs next all left n start r len e le f is here then_ =
    let w : ℕ = old.width in
    let h : ℕ = old.height in
    let xs : List ℕ = take n bs in
    let few : length xs ≡ n = omega (arith, length-take n bs) in
    let form : Reading ServerMessage = form_of w h here.sofar p in
    let taken_ : taken r xs ≡ n = ap (λ (q : Reading ServerMessage). taken q xs) here.reads ∙ (part_takes w h here.sofar p begun xs (omega arith) ∙ few) in
    let reads : after form all ≡ after r xs = ap (after form) (is ∙ ap (λ t. begun ++ t) f) ∙ (after-append form begun xs ∙ ap (λ (q : Reading ServerMessage). after q xs) (sym here.reads)) in
    record {
      next = after r xs;
      behind_ = behind_first r bs n (omega arith) taken_;
      goes_on = subst (λ (q : Reading ServerMessage). GoesOn old new state start q) reads (then_ here.sofar here.holds here.suited);
    }

-- ---- texts

-- Where nothing is painted.
unpainted : (painter : Painting) (state : HostState) (start : Canvas) (r : Reading ServerMessage) → Holds start painter [] → (is_refused state ≡ true) ⊎ StandsUnpainted painter.width painter.height state r → GoesOn painter painter state start r
unpainted painter state start r none (inl e) = inl e
unpainted painter state start r none (inr s) = inr (s start painter none)

pub text_uses : (painter : Painting) (kept : List ℕ) (left : ℕ) (state : HostState) (bs next : List ℕ) (n : ℕ) (start : Canvas) (r : Reading ServerMessage) → Holds start painter [] → r ≡ keeping kept left → n ≡ min (length bs) left → next ≡ take n bs
    → (is_refused state ≡ true) ⊎ StandsUnpainted painter.width painter.height state (keeping (kept ++ next) (left - length next)) → Uses painter painter state start r bs n
text_uses painter kept left state bs next n start r none reads e f stands =
    let few : length (take n bs) ≡ n = omega (arith, length-take n bs) in
    let same : keeping (kept ++ next) (left - length next) ≡ after r (take n bs) = rw (f, reads) (sym (text_after ServerCutText kept (take n bs) left (omega arith))) in
    let all : taken r (take n bs) ≡ n = rw reads (text_taken ServerCutText kept (take n bs) left (omega arith) ∙ few) in
    record {
      next = after r (take n bs);
      behind_ = behind_first r bs n (omega arith) all;
      goes_on = unpainted painter state start (after r (take n bs)) none (subst (λ q. (is_refused state ≡ true) ⊎ StandsUnpainted painter.width painter.height state q) same stands);
    }

pub past_uses : (painter : Painting) (left : ℕ) (what : Passed) (state : HostState) (bs : List ℕ) (n : ℕ) (start : Canvas) (r : Reading ServerMessage) → Holds start painter [] → r ≡ passing left what → n ≡ min (length bs) left
    → StandsUnpainted painter.width painter.height state (passing (left - n) what) → Uses painter painter state start r bs n
past_uses painter left what state bs n start r none reads e stands =
    let few : length (take n bs) ≡ n = omega (arith, length-take n bs) in
    let same : passing (left - n) what ≡ after r (take n bs) = rw reads (ap (λ k. padding (left - k) (Done (message_of what))) (sym few) ∙ sym (padding-after left (Done (message_of what)) (take n bs) (omega arith))) in
    let all : taken r (take n bs) ≡ n = rw reads (padding-taken left (Done (message_of what)) (take n bs) (omega arith) ∙ few) in
    record {
      next = after r (take n bs);
      behind_ = behind_first r bs n (omega arith) all;
      goes_on = unpainted painter state start (after r (take n bs)) none (inr (subst (λ q. StandsUnpainted painter.width painter.height state q) same stands));
    }
