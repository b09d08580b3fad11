-- A reading of which the text is lost goes on as the reading does. So want of memory changes nothing but that text.
use Rattle.std.proofs.Common.{Some, ◌≡◌, ℕ, suc, List, [], ◌∷◌, Option, None, ◌⊎◌, inl, inr, Ok, Err, refl, sym, ap, subst, ◌∙◌}
use Rattle.std.specs.Prelude.{option_map}
use mathlib.Core.Path.{fun_ext}
use Rattle.fault.specs.declared.kinds.Fault.{Fault}
use Rattle.byte_reading.specs.Reading.{Reading, Done, Faulty, Want, step, after, taken, renewed, whole_of, fault_of, Feeds, GivesWhole}
use Rattle.byte_reading.proofs.ReadingLaws.{done_from, found_is}
use Rattle.rfb_wire.specs.ClientMessage.{ClientMessage, SetPixelFormat, SetEncodings, Ask, Key, Pointer, CutText, LostText, without_text}
use Rattle.rfb_wire.specs.Message.{losing, FeedsOrLoses, IsOrLoses}

pub without-twice : (m : ClientMessage) → without_text (without_text m) ≡ without_text m
without-twice (SetPixelFormat format) = refl
without-twice (SetEncodings choice) = refl
without-twice (Ask incremental area) = refl
without-twice (Key down key) = refl
without-twice (Pointer mask x y) = refl
without-twice (CutText text) = refl
without-twice (LostText len) = refl

pub losing-twice : (r : Reading ClientMessage) → losing (losing r) ≡ losing r
losing-twice (Done m) = ap Done (without-twice m)
losing-twice (Faulty fault) = refl
losing-twice (Want more) = ap Want (fun_ext (λ b. losing-twice (more b)))

losing-step : (r : Reading ClientMessage) (b : ℕ) → step (losing r) b ≡ losing (step r b)
losing-step (Done m) b = refl
losing-step (Faulty fault) b = refl
losing-step (Want more) b = refl

pub losing-after : (r : Reading ClientMessage) (bs : List ℕ) → after (losing r) bs ≡ losing (after r bs)
losing-after r [] = refl
losing-after r (b ∷ bs) = ap (λ s. after s bs) (losing-step r b) ∙ losing-after (step r b) bs

pub losing-taken : (r : Reading ClientMessage) (bs : List ℕ) → taken (losing r) bs ≡ taken r bs
losing-taken (Done m) bs = refl
losing-taken (Faulty fault) bs = refl
losing-taken (Want more) [] = refl
losing-taken (Want more) (b ∷ bs) = ap suc (losing-taken (more b) bs)

pub losing-fault : (r : Reading ClientMessage) → fault_of (losing r) ≡ fault_of r
losing-fault (Done m) = refl
losing-fault (Faulty fault) = refl
losing-fault (Want more) = refl

pub losing-whole : (r : Reading ClientMessage) → whole_of (losing r) ≡ option_map without_text (whole_of r)
losing-whole (Done m) = refl
losing-whole (Faulty fault) = refl
losing-whole (Want more) = refl

at_fault : (r : Reading ClientMessage) (fault : Fault) → losing r ≡ Faulty fault → r ≡ Faulty fault
at_fault (Done m) fault e = absurd cc
at_fault (Faulty f) fault e = e
at_fault (Want more) fault e = absurd cc

-- What may be lost of a reading may be lost of how it goes on.
lost_after : (r : Reading ClientMessage) (bs : List ℕ) (now new : Reading ClientMessage) → now ≡ losing r → new ≡ after now bs → new ≡ losing (after r bs)
lost_after r bs now new e n = n ∙ (ap (λ s. after s bs) e ∙ losing-after r bs)

-- ---- a caller that knows how reading would go on with ample memory

lost_fed : (r now new : Reading ClientMessage) (piece : List ℕ) (used : ℕ) → now ≡ losing r → Feeds now new piece (Ok used) → IsOrLoses new (after r piece) × (used ≡ taken r piece) × (fault_of (after r piece) ≡ None)
lost_fed r now new piece used e h =
    let goes : new ≡ losing (after r piece) = lost_after r piece now new e h.0 in
    (inr goes, h.1 ∙ (ap (λ s. taken s piece) e ∙ losing-taken r piece), sym (losing-fault (after r piece)) ∙ (ap fault_of (sym goes) ∙ h.2))

-- A piece without a fault.
pub goes_on_fed : (r now new : Reading ClientMessage) (piece : List ℕ) (used : ℕ) → IsOrLoses now r → FeedsOrLoses now new piece (Ok used)
    → IsOrLoses new (after r piece) × (used ≡ taken r piece) × (fault_of (after r piece) ≡ None)
goes_on_fed r now new piece used (inl e) (inl h) = (inl (h.0 ∙ ap (λ s. after s piece) e), h.1 ∙ ap (λ s. taken s piece) e, ap (λ s. fault_of (after s piece)) (sym e) ∙ (ap fault_of (sym h.0) ∙ h.2))
goes_on_fed r now new piece used (inl e) (inr h) = lost_fed r (losing now) new piece used (ap losing e) h
goes_on_fed r now new piece used (inr e) (inl h) = lost_fed r now new piece used e h
goes_on_fed r now new piece used (inr e) (inr h) = lost_fed r (losing now) new piece used (ap losing e ∙ losing-twice r) h

lost_faults : (r now new : Reading ClientMessage) (piece : List ℕ) (fault : Fault) → now ≡ losing r → Feeds now new piece (Err fault) → (new ≡ Faulty fault) × (after r piece ≡ Faulty fault)
lost_faults r now new piece fault e h = (h.1, at_fault (after r piece) fault (sym (lost_after r piece now new e h.0) ∙ h.1))

-- A piece that shows a fault.
pub goes_on_faults : (r now new : Reading ClientMessage) (piece : List ℕ) (fault : Fault) → IsOrLoses now r → FeedsOrLoses now new piece (Err fault) → (new ≡ Faulty fault) × (after r piece ≡ Faulty fault)
goes_on_faults r now new piece fault (inl e) (inl h) = (h.1, ap (λ s. after s piece) (sym e) ∙ (sym h.0 ∙ h.1))
goes_on_faults r now new piece fault (inl e) (inr h) = lost_faults r (losing now) new piece fault (ap losing e) h
goes_on_faults r now new piece fault (inr e) (inl h) = lost_faults r now new piece fault e h
goes_on_faults r now new piece fault (inr e) (inr h) = lost_faults r (losing now) new piece fault (ap losing e ∙ losing-twice r) h

renewed-lost : (form r : Reading ClientMessage) → IsOrLoses (renewed form (losing r)) (renewed form r)
renewed-lost form (Done m) = inl refl
renewed-lost form (Faulty fault) = inl refl
renewed-lost form (Want more) = inr refl

-- The message that is given, or the same without its text.
pub goes_on_taken : (form r now new : Reading ClientMessage) (answer : Option ClientMessage) → IsOrLoses now r → GivesWhole form now new answer
    → ((answer ≡ whole_of r) ⊎ (answer ≡ option_map without_text (whole_of r))) × IsOrLoses new (renewed form r)
goes_on_taken form r now new answer (inl e) g = (inl (g.given ∙ ap whole_of e), inl (g.begins_anew ∙ ap (renewed form) e))
goes_on_taken form r now new answer (inr e) g =
    let P : Reading ClientMessage → Type 0 = λ s. IsOrLoses s (renewed form r) in
    (inr (g.given ∙ (ap whole_of e ∙ losing-whole r)), subst P (sym (g.begins_anew ∙ ap (renewed form) e)) (renewed-lost form r))

-- ---- the same, of a piece that was fed and what was taken then

-- A message was whole: it is the one that is read, or the same without its text.
pub record IsRead (form r new : Reading ClientMessage) (piece : List ℕ) (used : ℕ) (given : ClientMessage) : Type 0 where
  pub message : ClientMessage
  pub whole : after r piece ≡ Done message
  pub same : (given ≡ message) ⊎ (given ≡ without_text message)
  pub count : used ≡ taken r piece
  pub anew : new ≡ form

read_whole : (form r mid new : Reading ClientMessage) (piece : List ℕ) (used : ℕ) (given : ClientMessage) → IsOrLoses mid (after r piece) → used ≡ taken r piece → GivesWhole form mid new (Some given) → IsRead form r new piece used given
read_whole form r mid new piece used given (inl e) count g =
    let whole = done_from (after r piece) given (g.given ∙ ap whole_of e) in
    record { message = given; whole = whole; same = inl refl; count = count; anew = g.begins_anew ∙ ap (renewed form) (e ∙ whole) }
read_whole form r mid new piece used given (inr e) count g =
    let lost = found_is without_text given (after r piece) (g.given ∙ (ap whole_of e ∙ losing-whole (after r piece))) in
    record { message = lost.0; whole = lost.1; same = inr lost.2; count = count; anew = g.begins_anew ∙ ap (renewed form) (e ∙ ap losing lost.1) }

pub message_read : (form r now mid new : Reading ClientMessage) (piece : List ℕ) (used : ℕ) (given : ClientMessage) → IsOrLoses now r → FeedsOrLoses now mid piece (Ok used) → GivesWhole form mid new (Some given)
    → IsRead form r new piece used given
message_read form r now mid new piece used given e h g =
    let fed = goes_on_fed r now mid piece used e h in
    read_whole form r mid new piece used given fed.0 fed.1 g
