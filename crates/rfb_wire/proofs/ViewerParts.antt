-- The parts of a viewer's message whose length is fixed. They are judged once their last byte has come.
use Rattle.std.proofs.Common.{◌≡◌, ℕ, zero, suc, ◌+◌, ◌-◌, ◌<◌, true, false, not, List, [], ◌∷◌, ◌++◌, min, length, take, drop, None, refl, sym, ap, ◌∙◌, arith}
use Rattle.std.specs.Prelude.{◌==◌, Bool, if◌then◌else◌, nat_le, nat_lt, slice_index}
use Rattle.std.specs.Int.{w16, w32, from_be_bytes}
use mathlib.Core.Path.{fun_ext}
use Rattle.std.proofs.lemmas.Bool.{lt-ltb}
use Rattle.pixel_format.specs.PixelFormat.{PixelFormat, accepts, format_at}
use Rattle.std.proofs.lemmas.List.{take_all, length-drop, length-take}
use Rattle.fault.specs.declared.kinds.Fault.TheVariants.{BadFormat}
use Rattle.byte_reading.specs.Reading.{Reading, Done, Faulty, ◌>>=◌, after, taken, bytes, padding, times, u32, wants_more, unless}
use Rattle.byte_reading.proofs.ReadingLaws.{bind_assoc, after-append}
use Rattle.byte_reading.proofs.Heads.{head_wants, head_full, head_takes}
use Rattle.rfb_wire.specs.declared.client_reader.found.Found.{Found}
use Rattle.rfb_wire.specs.declared.client_reader.part.Part.{Part}
use Rattle.rfb_wire.specs.declared.client_reader.part.Part.TheVariants as part
use Rattle.rfb_wire.specs.ClientMessage.{ClientMessage, SetPixelFormat, SetEncodings, Ask, Key, Pointer, CutText, LostText, longest_text, fields_of, set_pixel_format, set_encodings, choice_of, Choice}
use Rattle.rfb_wire.specs.Parts.{len_of}
use Rattle.rfb_wire.specs.ClientReader.{form_of, numbers, choice_with, Uses}

-- ---- each part of a viewer's message is one

pub record IsHead (p : Part) : Type 0 where
  pub next : List ℕ → Reading ClientMessage
  pub same : form_of p ≡ (bytes (len_of p) >>= next)

abbrev pub is_head : (p : Part) → IsHead p
is_head part.Kind = record { next = λ xs. fields_of (slice_index xs 0); same = refl }
is_head part.Format = record { next = λ xs. unless (not (accepts (drop 3 xs))) BadFormat (Done (SetPixelFormat (format_at (drop 3 xs)))); same = refl }
is_head part.Count = record { next = λ xs. times (from_be_bytes w16 (slice_index xs 1 ∷ slice_index xs 2 ∷ [])) u32 >>= λ es. Done (SetEncodings (choice_of es)); same = refl }
is_head (part.Number left found) = record { next = λ xs. (times left u32 >>= λ es. Done (from_be_bytes w32 xs ∷ es)) >>= λ es. Done (SetEncodings (choice_with found es)); same = refl }
is_head part.Ask =
    record {
      next = λ xs. Done (Ask (not (slice_index xs 0 == 0)) (record {
        x = from_be_bytes w16 (slice_index xs 1 ∷ slice_index xs 2 ∷ []);
        y = from_be_bytes w16 (slice_index xs 3 ∷ slice_index xs 4 ∷ []);
        w = from_be_bytes w16 (slice_index xs 5 ∷ slice_index xs 6 ∷ []);
        h = from_be_bytes w16 (slice_index xs 7 ∷ slice_index xs 8 ∷ []);
      }));
      same = refl;
    }
is_head part.Key = record { next = λ xs. Done (Key (not (slice_index xs 0 == 0)) (from_be_bytes w32 (drop 3 xs))); same = refl }
is_head part.Pointer =
    record {
      next = λ xs. Done (Pointer (slice_index xs 0) (from_be_bytes w16 (slice_index xs 1 ∷ slice_index xs 2 ∷ [])) (from_be_bytes w16 (slice_index xs 3 ∷ slice_index xs 4 ∷ [])));
      same = refl;
    }
is_head part.Length =
    record {
      next = λ xs. if nat_le (from_be_bytes w32 (drop 3 xs)) longest_text then (bytes (from_be_bytes w32 (drop 3 xs)) >>= λ others. Done (CutText others)) else padding (from_be_bytes w32 (drop 3 xs)) (Done (LostText (from_be_bytes w32 (drop 3 xs))));
      same = refl;
    }

pub part_wants : (p : Part) (begun : List ℕ) → length begun < len_of p → wants_more (after (form_of p) begun) ≡ true
part_wants p begun lt = ap (λ r. wants_more (after r begun)) (is_head p).same ∙ head_wants (len_of p) (is_head p).next begun lt

pub part_full : (p : Part) (xs : List ℕ) → length xs ≡ len_of p → after (form_of p) xs ≡ (is_head p).next xs
part_full p xs e = ap (λ r. after r xs) (is_head p).same ∙ head_full (len_of p) (is_head p).next xs e

-- ---- a list of encodings

-- One number is read, and this many are left.
numbers_noted : (left : ℕ) (found new : Found) (xs : List ℕ) → length xs ≡ 4 → ((others : List ℕ) → choice_with new others ≡ choice_with found (from_be_bytes w32 xs ∷ others)) → after (numbers (suc left) found) xs ≡ numbers left new
numbers_noted left found new xs e notes =
    let number : ℕ = from_be_bytes w32 xs in
    part_full (part.Number left found) xs e
    ∙ (bind_assoc (times left u32) (λ es. Done (number ∷ es)) (λ es. Done (SetEncodings (choice_with found es)))
    ∙ ap (λ (f : List ℕ → Reading ClientMessage). times left u32 >>= f) (fun_ext (λ es. ap (λ c. Done (SetEncodings c)) (sym (notes es)))))

-- The first number of a list follows its count.
pub count_goes_on : (count : ℕ) (fields : Part × List ℕ) (xs : List ℕ) → length xs ≡ 3 → 0 < count → count ≡ from_be_bytes w16 (slice_index xs 1 ∷ slice_index xs 2 ∷ [])
    → fields ≡ (part.Number (count - 1) (record { kind = None; copy = false; resizes = false; zrle = false }), []) → after (form_of fields.0) fields.1 ≡ after set_encodings xs
count_goes_on count fields xs e some same is =
    let found : Found = record { kind = None; copy = false; resizes = false; zrle = false } in
    let grown : suc (count - 1) ≡ count = omega arith in
    ap (λ (f : Part × List ℕ). after (form_of f.0) f.1) is ∙ (ap (λ n. numbers n found) (grown ∙ same) ∙ sym (part_full part.Count xs e))

-- The last number.
pub number_ends : (left : ℕ) (found new : Found) (choice : Choice) (number : ℕ) (xs : List ℕ) → length xs ≡ 4 → left ≡ 0 → number ≡ from_be_bytes w32 xs
    → ((others : List ℕ) → choice_with new others ≡ choice_with found (number ∷ others)) → choice ≡ choice_with new [] → Done (SetEncodings choice) ≡ after (numbers (suc left) found) xs
number_ends left found new choice number xs e last same notes is =
    let here : (others : List ℕ) → choice_with new others ≡ choice_with found (from_be_bytes w32 xs ∷ others) = λ others. notes others ∙ ap (λ n. choice_with found (n ∷ others)) same in
    ap (λ c. Done (SetEncodings c)) is ∙ sym (numbers_noted left found new xs e here ∙ ap (λ n. numbers n new) last)

-- One that isn't the last.
pub number_goes_on : (left : ℕ) (found new : Found) (number : ℕ) (fields : Part × List ℕ) (xs : List ℕ) → length xs ≡ 4 → 0 < left → number ≡ from_be_bytes w32 xs
    → ((others : List ℕ) → choice_with new others ≡ choice_with found (number ∷ others)) → fields ≡ (part.Number (left - 1) new, []) → after (form_of fields.0) fields.1 ≡ after (numbers (suc left) found) xs
number_goes_on left found new number fields xs e some same notes is =
    let here : (others : List ℕ) → choice_with new others ≡ choice_with found (from_be_bytes w32 xs ∷ others) = λ others. notes others ∙ ap (λ n. choice_with found (n ∷ others)) same in
    let grown : suc (left - 1) ≡ left = omega arith in
    ap (λ (f : Part × List ℕ). after (form_of f.0) f.1) is ∙ (ap (λ n. numbers n new) grown ∙ sym (numbers_noted left found new xs e here))

-- ---- a pixel format

chunk_is : (xs fields : List ℕ) → length xs ≡ 19 → fields ≡ take 16 (drop 3 xs) → fields ≡ drop 3 xs
chunk_is xs fields e is = is ∙ take_all 16 (drop 3 xs) (omega (arith, length-drop 3 xs))

not_so : (b : Bool) → (b ≡ true → ⊥) → b ≡ false
not_so true n = absurd (n refl)
not_so false n = refl

format_read : (b : Bool) (xs fields : List ℕ) → length xs ≡ 19 → fields ≡ take 16 (drop 3 xs) → accepts fields ≡ b → after set_pixel_format xs ≡ unless (not b) BadFormat (Done (SetPixelFormat (format_at fields)))
format_read b xs fields e is accepted =
    let same = chunk_is xs fields e is in
    part_full part.Format xs e ∙ (ap (λ f. unless (not (accepts f)) BadFormat (Done (SetPixelFormat (format_at f)))) (sym same) ∙ ap (λ a. unless (not a) BadFormat (Done (SetPixelFormat (format_at fields)))) accepted)

pub format_accepted : (xs fields : List ℕ) (format : PixelFormat) → length xs ≡ 19 → fields ≡ take 16 (drop 3 xs) → accepts fields ≡ true → format ≡ format_at fields → Done (SetPixelFormat format) ≡ after set_pixel_format xs
format_accepted xs fields format e is accepted same = ap (λ f. Done (SetPixelFormat f)) same ∙ sym (format_read true xs fields e is accepted)

pub format_refused : (xs fields : List ℕ) → length xs ≡ 19 → fields ≡ take 16 (drop 3 xs) → (accepts fields ≡ true → ⊥) → Faulty BadFormat ≡ after set_pixel_format xs
format_refused xs fields e is refused = sym (format_read false xs fields e is (not_so (accepts fields) refused))

-- ---- the bytes of a part

pub fields_want : (p : Part) (begun : List ℕ) (held : Part × List ℕ) → (p, begun) ≡ held → length begun < len_of p → wants_more (after (form_of held.0) held.1) ≡ true
fields_want p begun held is lt = ap (λ (f : Part × List ℕ). wants_more (after (form_of f.0) f.1)) (sym is) ∙ part_wants p begun lt

-- As many bytes are used as are missing, or as there are.
pub fields_use : (p : Part) (begun : List ℕ) (new : Reading ClientMessage) (piece next : List ℕ) (left n : ℕ) → length begun + left ≡ len_of p → 0 < left → 0 < length piece → n ≡ min (length piece) left → next ≡ take n piece
    → new ≡ after (form_of p) (begun ++ next) → Uses (after (form_of p) begun) new piece n
fields_use p begun new piece next left n all more some e f goes =
    let same : length (take n piece) ≡ n = omega (arith, length-take n piece) in
    record {
      some = omega arith;
      fits = omega arith;
      goes_on = goes ∙ (ap (λ t. after (form_of p) (begun ++ t)) f ∙ after-append (form_of p) begun (take n piece));
      all = ap (λ r. taken (after r begun) (take n piece)) (is_head p).same ∙ (head_takes (len_of p) (is_head p).next begun (take n piece) (omega arith) ∙ same);
    }

pub fields_open : (held : Part × List ℕ) (left : ℕ) → length held.1 + left ≡ len_of held.0 → 0 < left → nat_lt 0 left ≡ wants_more (after (form_of held.0) held.1)
fields_open held zero all some = absurd (omega arith)
fields_open held (suc left) all some = lt-ltb 0 (suc left) some ∙ sym (part_wants held.0 held.1 (omega arith))
