-- The beginning of a viewer's message, told from every other place in one. `ClientReader::is_between` tells it from the
-- fields.
use Rattle.std.proofs.Common.{◌≡◌, ℕ, zero, suc, ◌+◌, ◌<◌, Bool, true, false, cond, List, [], ◌∷◌, ◌++◌, length, drop, Some, inl, inr, refl, sym, ap, subst, ◌∙◌, arith, length-append}
use Rattle.std.specs.Prelude.{◌⊎◌, IsTrue, nat_le}
use Rattle.std.specs.Int.{w32, from_be_bytes}
use Rattle.std.proofs.lemmas.Bool.{cases_lt}
use Rattle.fault.specs.declared.kinds.Fault.TheVariants.{BadFormat, UnknownMessage}
use Rattle.byte_reading.specs.Reading.{Reading, Done, Faulty, Want, ◌>>=◌, step, after, fault_of, wants_more, bytes, padding, times, u32, unless}
use Rattle.byte_reading.proofs.ReadingLaws.{after-append}
use Rattle.rfb_wire.specs.ClientMessage.{ClientMessage, SetPixelFormat, SetEncodings, Ask, Key, Pointer, CutText, LostText, client_message, longest_text}
use Rattle.rfb_wire.specs.ClientReader.{ahead, form_of, KnowsType}
use Rattle.rfb_wire.specs.Message.{losing, IsOrLoses}
use Rattle.rfb_wire.specs.Parts.{len_of}
use Rattle.rfb_wire.specs.declared.client_reader.part.Part.{Part}
use Rattle.rfb_wire.specs.declared.client_reader.part.Part.TheVariants as part
use Rattle.rfb_wire.specs.declared.kept_text.KeptText.{KeptText}
use Rattle.rfb_wire.specs.declared.skipped_bytes.SkippedBytes.{SkippedBytes}
use Rattle.rfb_wire.specs.declared.client_reader.state.State.{State}
use Rattle.rfb_wire.specs.declared.client_reader.state.State.TheVariants.{Fields, Keeping, Passing, Whole, Failed}
use Rattle.fault.specs.declared.kinds.Fault.{Fault}
use Rattle.rfb_wire.specs.declared.message.ClientMessage as declared
use Rattle.rfb_wire.proofs.Losing.{losing-after}
use Rattle.rfb_wire.proofs.ViewerParts.{is_head, part_wants, part_full}

abbrev IsKnown : Reading ClientMessage → Type 0
IsKnown r = fault_of r ≡ Some (UnknownMessage 255) → ⊥

known_wants : (r : Reading ClientMessage) → wants_more r ≡ true → IsKnown r
known_wants (Done m) w = absurd cc
known_wants (Faulty f) w = absurd cc
known_wants (Want more) w = λ e. cc

known_unless : (b : Bool) (m : ClientMessage) → IsKnown (unless b BadFormat (Done m))
known_unless true m = λ e. cc
known_unless false m = λ e. cc

known_times : (n : ℕ) (make : List ℕ → List ℕ) (next : List ℕ → ClientMessage) → IsKnown ((times n u32 >>= λ es. Done (make es)) >>= λ es. Done (next es))
known_times zero make next = λ e. cc
known_times (suc n) make next = λ e. cc

known_numbers : (n : ℕ) (next : List ℕ → ClientMessage) → IsKnown (times n u32 >>= λ es. Done (next es))
known_numbers zero next = λ e. cc
known_numbers (suc n) next = λ e. cc

known_bytes : (n : ℕ) (next : List ℕ → ClientMessage) → IsKnown (bytes n >>= λ others. Done (next others))
known_bytes zero next = λ e. cc
known_bytes (suc n) next = λ e. cc

known_padding : (n : ℕ) (m : ClientMessage) → IsKnown (padding n (Done m))
known_padding zero m = λ e. cc
known_padding (suc n) m = λ e. cc

known_more : (n : ℕ) (make : List ℕ → List ℕ) (next : List ℕ → ClientMessage) → IsKnown ((bytes n >>= λ es. Done (make es)) >>= λ es. Done (next es))
known_more zero make next = λ e. cc
known_more (suc n) make next = λ e. cc

known_text : (len : ℕ) (b : Bool) → IsKnown (cond b (bytes len >>= λ others. Done (CutText others)) (padding len (Done (LostText len))))
known_text len true = known_bytes len CutText
known_text len false = known_padding len (LostText len)

abbrev NotKind : Part → Type 0
NotKind p = p ≡ part.Kind → ⊥

known_next : (p : Part) (xs : List ℕ) → NotKind p → IsKnown ((is_head p).next xs)
known_next part.Kind xs other = absurd (other refl)
known_next part.Format xs other = known_unless _ _
known_next part.Count xs other = known_numbers _ _
known_next (part.Number left found) xs other = known_times left _ _
known_next part.Ask xs other = λ e. cc
known_next part.Key xs other = λ e. cc
known_next part.Pointer xs other = λ e. cc
known_next part.Length xs other = known_text (from_be_bytes w32 (drop 3 xs)) (nat_le (from_be_bytes w32 (drop 3 xs)) longest_text)

-- Fields other than the type know it.
pub fields_know : (p : Part) (begun : List ℕ) → length begun < len_of p → NotKind p → KnowsType (after (form_of p) begun)
fields_know p begun lt other =
    let more : List ℕ = begun ++ 255 ∷ [] in
    let count : length more ≡ length begun + 1 = length-append begun (255 ∷ []) in
    let known : IsKnown (after (form_of p) more) =
    elim (cases_lt (length more) (len_of p)) [
      | inl lt ↦ known_wants (after (form_of p) more) (part_wants p more lt)
      | inr ge ↦ subst IsKnown (sym (part_full p more (omega arith))) (known_next p more other)
    ] in
    subst IsKnown (after-append (form_of p) begun (255 ∷ [])) known

pub keeping_knows : (kept : List ℕ) (left : ℕ) → KnowsType (bytes left >>= λ others. Done (CutText (kept ++ others)))
keeping_knows kept zero = λ e. cc
keeping_knows kept (suc left) = known_more left (λ others. 255 ∷ others) (λ others. CutText (kept ++ others))

pub passing_knows : (left len : ℕ) → KnowsType (padding left (Done (LostText len)))
passing_knows zero len = λ e. cc
passing_knows (suc left) len = known_padding left (LostText len)

-- ---- what knows its type isn't at the beginning

pub not_begun : (r : Reading ClientMessage) → KnowsType r → IsOrLoses r client_message → ⊥
not_begun r k (inl e) = k (ap (λ q. fault_of (step q 255)) e)
not_begun r k (inr e) = k (ap (λ q. fault_of (step q 255)) e)

pub not_begun_shut : (r : Reading ClientMessage) → wants_more r ≡ false → IsOrLoses r client_message → ⊥
not_begun_shut r shut (inl e) = let open_ : wants_more r ≡ true = ap wants_more e in cc
not_begun_shut r shut (inr e) = let open_ : wants_more r ≡ true = ap wants_more e in cc

at_other : (st now : State) → st ≡ now → (IsOrLoses (ahead now) client_message → ⊥) → IsOrLoses (ahead st) client_message → ⊥
at_other st now e other k = other (subst (λ t. IsOrLoses (ahead t) client_message) e k)

-- A text, a whole message and a fault are elsewhere.
pub elsewhere : (st : State) → ((x : KeptText) × (st ≡ Keeping x)) ⊎ (((len : ℕ) × (x : SkippedBytes) × (st ≡ Passing len x)) ⊎ (((x : declared.ClientMessage) × (st ≡ Whole x)) ⊎ ((x : Fault) × (st ≡ Failed x))))
    → (IsTrue false → IsOrLoses (ahead st) client_message) × (IsOrLoses (ahead st) client_message → IsTrue false)
elsewhere st is =
    let other : IsOrLoses (ahead st) client_message → ⊥ =
    elim is [
      | inl e ↦ at_other st (Keeping e.0) e.1 (not_begun (ahead (Keeping e.0)) (keeping_knows e.0.0 e.0.1))
      | inr others ↦ elim others [
        | inl e ↦ at_other st (Passing e.0 e.1) e.2 (not_begun (ahead (Passing e.0 e.1)) (passing_knows e.1 e.0))
        | inr others ↦ elim others [
          | inl e ↦ at_other st (Whole e.0) e.1 (not_begun_shut (ahead (Whole e.0)) refl)
          | inr e ↦ at_other st (Failed e.0) e.1 (not_begun_shut (ahead (Failed e.0)) refl)
        ]
      ]
    ] in
    (λ e. absurd cc, λ k. absurd (other k))

-- Fields other than the type are elsewhere too.
pub elsewhere_part : (st : State) (held : Part × List ℕ) → st ≡ Fields held → length held.1 < len_of held.0 → NotKind held.0 → IsOrLoses (ahead st) client_message → ⊥
elsewhere_part st held is lt other = at_other st (Fields held) is (not_begun (ahead (Fields held)) (fields_know held.0 held.1 lt other))

-- ---- where memory for a text was refused

no_kept : (r : Reading ClientMessage) → Done (CutText []) ≡ losing r → ⊥
no_kept (Done (SetPixelFormat format)) e = cc
no_kept (Done (SetEncodings choice)) e = cc
no_kept (Done (Ask incremental area)) e = cc
no_kept (Done (Key down key)) e = cc
no_kept (Done (Pointer mask x y)) e = cc
no_kept (Done (CutText text)) e = cc
no_kept (Done (LostText len)) e = cc
no_kept (Faulty f) e = cc
no_kept (Want more) e = cc

abbrev empty_text : List ℕ
empty_text = 6 ∷ 0 ∷ 0 ∷ 0 ∷ 0 ∷ 0 ∷ 0 ∷ 0 ∷ []

-- Before its first byte nothing was refused.
pub nothing_lost : (r : Reading ClientMessage) → client_message ≡ losing r → ⊥
nothing_lost r e = no_kept (after r empty_text) (ap (λ q. after q empty_text) e ∙ losing-after r empty_text)
