-- How a text goes on, kept or read past. A reader takes a text piece by piece.
use Rattle.std.proofs.Common.{◌≡◌, ℕ, zero, suc, ◌+◌, ◌-◌, ◌<◌, ◌≤◌, true, List, [], ◌∷◌, ◌++◌, length, take, min, ◌⊎◌, inl, inr, refl, sym, ap, subst, ◌∙◌, arith}
use mathlib.Core.Path.{fun_ext}
use Rattle.std.proofs.lemmas.List.{append-nil, length-append, length-take}
use Rattle.byte_reading.specs.Reading.{Reading, Done, Want, padding, wants_more}
use Rattle.byte_reading.proofs.ReadingLaws.{padding-after, padding-taken}
use Rattle.rfb_wire.specs.ClientMessage.{ClientMessage, CutText, LostText}
use Rattle.rfb_wire.specs.Message.{losing}
use Rattle.rfb_wire.specs.ClientReader.{keeping, passing, Uses, UsesOrLoses}
use Rattle.rfb_wire.proofs.TextForms.{text_step, text_after, text_taken}

-- A text that is lost is read past.
pub losing_keeping : (kept : List ℕ) (left : ℕ) → losing (keeping kept left) ≡ padding left (Done (LostText (length kept + left)))
losing_keeping kept zero = ap (λ n. Done (LostText n)) (length-append kept [])
losing_keeping kept (suc left) =
    ap Want (fun_ext (λ b.
    ap losing (text_step CutText kept left b) ∙ (losing_keeping (kept ++ b ∷ []) left ∙ ap (λ n. padding left (Done (LostText n))) (omega (arith, length-append kept (b ∷ []))))))

-- ---- what is used of a piece

pub keeping_wants : (kept : List ℕ) (left : ℕ) → 0 < left → wants_more (keeping kept left) ≡ true
keeping_wants kept zero lt = absurd (omega arith)
keeping_wants kept (suc left) lt = refl

pub passing_wants : (left len : ℕ) → 0 < left → wants_more (passing left len) ≡ true
passing_wants zero len lt = absurd (omega arith)
passing_wants (suc left) len lt = refl

pub passing_uses : (left : ℕ) (m : ClientMessage) (new : Reading ClientMessage) (piece : List ℕ) (n : ℕ) → 0 < n → n ≤ left → n ≤ length piece → new ≡ padding (left - n) (Done m) → Uses (padding left (Done m)) new piece n
passing_uses left m new piece n some few fits e =
    let same : length (take n piece) ≡ n = omega (arith, length-take n piece) in
    let within : length (take n piece) ≤ left = omega (arith, same) in
    record {
      some = some;
      fits = fits;
      goes_on = e ∙ (ap (λ k. padding (left - k) (Done m)) (sym same) ∙ sym (padding-after left (Done m) (take n piece) within));
      all = padding-taken left (Done m) (take n piece) within ∙ same;
    }

pub keeping_uses : (kept : List ℕ) (left : ℕ) (new : Reading ClientMessage) (piece : List ℕ) (n : ℕ) → 0 < n → n ≤ left → n ≤ length piece → new ≡ keeping (kept ++ take n piece) (left - n) → Uses (keeping kept left) new piece n
keeping_uses kept left new piece n some few fits e =
    let same : length (take n piece) ≡ n = omega (arith, length-take n piece) in
    let within : length (take n piece) ≤ left = omega (arith, same) in
    record {
      some = some;
      fits = fits;
      goes_on = e ∙ (ap (λ k. keeping (kept ++ take n piece) (left - k)) (sym same) ∙ sym (text_after CutText kept (take n piece) left within));
      all = text_taken CutText kept (take n piece) left within ∙ same;
    }

pub text_uses : (kept : List ℕ) (left : ℕ) (new : Reading ClientMessage) (piece next : List ℕ) (n : ℕ) → 0 < left → 0 < length piece → n ≡ min (length piece) left → next ≡ take n piece
    → (new ≡ keeping (kept ++ next) (left - length next)) ⊎ (new ≡ passing (left - length next) (length kept + left)) → UsesOrLoses (keeping kept left) new piece n
text_uses kept left new piece next n more some e f (inl p) =
    let same : length next ≡ n = rw f (omega (arith, length-take n piece)) in
    inl (keeping_uses kept left new piece n (omega arith) (omega arith) (omega arith) (cc (p, f, same)))
text_uses kept left new piece next n more some e f (inr p) =
    let same : length next ≡ n = rw f (omega (arith, length-take n piece)) in
    let P : Reading ClientMessage → Type 0 = λ r. Uses r new piece n in
    inr (subst P (sym (losing_keeping kept left)) (passing_uses left (LostText (length kept + left)) new piece n (omega arith) (omega arith) (omega arith) (cc (p, same))))

pub past_uses : (left len : ℕ) (new : Reading ClientMessage) (piece : List ℕ) (n : ℕ) → 0 < left → 0 < length piece → n ≡ min (length piece) left → new ≡ passing (left - n) len → UsesOrLoses (passing left len) new piece n
past_uses left len new piece n more some e p = inl (passing_uses left (LostText len) new piece n (omega arith) (omega arith) (omega arith) p)

-- The last bytes of a text, kept or lost.
pub text_ends : (kept : List ℕ) (left : ℕ) (m : ClientMessage) (piece next : List ℕ) (n : ℕ) → 0 < left → 0 < length piece → n ≡ min (length piece) left → next ≡ take n piece → left - n ≡ 0
    → (m ≡ CutText (kept ++ next)) ⊎ (m ≡ LostText (length kept + left)) → UsesOrLoses (keeping kept left) (Done m) piece n
text_ends kept left m piece next n more some e f none (inl p) =
    let same : left - length next ≡ 0 = rw f (omega (arith, length-take n piece)) in
    text_uses kept left (Done m) piece next n more some e f (inl (ap Done (p ∙ ap CutText (sym (append-nil (kept ++ next)))) ∙ ap (keeping (kept ++ next)) (sym same)))
text_ends kept left m piece next n more some e f none (inr p) =
    let same : left - length next ≡ 0 = rw f (omega (arith, length-take n piece)) in
    text_uses kept left (Done m) piece next n more some e f (inr (ap Done p ∙ ap (λ k. passing k (length kept + left)) (sym same)))
