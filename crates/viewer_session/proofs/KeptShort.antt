-- What is read of a viewer has short texts, where they are kept, and each text has its mark. Feeding a session keeps
-- that.
use Rattle.std.proofs.Common.{◌≡◌, ℕ, ◌<◌, ◌≤◌, Bool, true, false, List, [], ◌∷◌, ◌++◌, length, Some, None, ◌⊎◌, inl, inr, refl, sym, ap, ◌∙◌, arith}
use Rattle.std.specs.Prelude.{◌==◌, not, nat_le, if◌then◌else◌}
use Rattle.std.proofs.lemmas.Bool.Decides.{nat_tests}
use Rattle.byte_reading.specs.Reading.{Reading, Done, ◌>>=◌, Gives, after, step, byte, bytes, padding, u16, u32, times, unless}
use Rattle.pixel_format.specs.PixelFormat.{accepts, format_at}
use Rattle.fault.specs.declared.kinds.Fault.TheVariants.{BadFormat}
use Rattle.raster.specs.Encoding.{rect}
use Rattle.rfb_wire.specs.ClientMessage.{ClientMessage, SetPixelFormat, SetEncodings, Ask, Key, Pointer, CutText, LostText, client_message, choice_of, flag, longest_text, without_text}
use Rattle.byte_reading.proofs.ReadingLaws.{gives_bind, gives_bytes, gives_if, gives_padding, gives_step, gives_then}
use Rattle.viewer_session.specs.Session.{HasKeptShort, marks_in, text_mark}
use Rattle.viewer_session.specs.Viewer.{marked}

pub at_most : (n m : ℕ) → nat_le n m ≡ true → n ≤ m
at_most n m e = grind (arith, nat_tests)

pub more_than : (n m : ℕ) → nat_le n m ≡ false → m < n
more_than n m e = grind (arith, nat_tests)

is_at_most : (n m : ℕ) → n ≤ m → nat_le n m ≡ true
is_at_most n m le = grind (arith, nat_tests)

is_more : (n m : ℕ) → m < n → nat_le n m ≡ false
is_more n m lt = grind (arith, nat_tests)

fine_format : (field : List ℕ) (b : Bool) → Gives HasKeptShort (unless b BadFormat (Done (SetPixelFormat (format_at field))))
fine_format field true = tt
fine_format field false = tt

-- A text by its length.
text_short : (len : ℕ) (b : Bool) → nat_le len longest_text ≡ b → Gives HasKeptShort (if b then (bytes len >>= λ text. Done (CutText text)) else padding len (Done (LostText len)))
text_short len true e = gives_then (λ field. length field ≡ len) HasKeptShort (bytes len) (λ text. Done (CutText text)) (gives_bytes len) (λ text same. omega (arith, at_most len longest_text e, same))
text_short len false e = gives_padding HasKeptShort len (Done (LostText len)) (more_than len longest_text e)

pub client_message_short : Gives HasKeptShort client_message
client_message_short = λ b.
    gives_if HasKeptShort (b == 0) _ _ (gives_padding HasKeptShort 3 (bytes 16 >>= λ field. unless (not (accepts field)) BadFormat (Done (SetPixelFormat (format_at field)))) (gives_bind HasKeptShort (bytes 16) (λ field. unless (not (accepts field)) BadFormat (Done (SetPixelFormat (format_at field)))) (λ field. fine_format field (not (accepts field)))))
    (gives_if HasKeptShort (b == 2) _ _ (gives_padding HasKeptShort 1 (u16 >>= λ count. times count u32 >>= λ encodings. Done (SetEncodings (choice_of encodings))) (gives_bind HasKeptShort u16 (λ count. times count u32 >>= λ encodings. Done (SetEncodings (choice_of encodings))) (λ count. gives_bind HasKeptShort (times count u32) (λ encodings. Done (SetEncodings (choice_of encodings))) (λ es. tt))))
    (gives_if HasKeptShort (b == 3) _ _ (gives_bind HasKeptShort flag (λ incremental. rect >>= λ area. Done (Ask incremental area)) (λ incremental. gives_bind HasKeptShort rect (λ area. Done (Ask incremental area)) (λ area. tt)))
    (gives_if HasKeptShort (b == 4) _ _ (gives_bind HasKeptShort flag (λ down. padding 2 (u32 >>= λ key. Done (Key down key))) (λ down. gives_padding HasKeptShort 2 (u32 >>= λ key. Done (Key down key)) (gives_bind HasKeptShort u32 (λ key. Done (Key down key)) (λ key. tt))))
    (gives_if HasKeptShort (b == 5) _ _ (gives_bind HasKeptShort byte (λ mask. u16 >>= λ x. u16 >>= λ y. Done (Pointer mask x y)) (λ mask. gives_bind HasKeptShort u16 (λ x. u16 >>= λ y. Done (Pointer mask x y)) (λ x. gives_bind HasKeptShort u16 (λ y. Done (Pointer mask x y)) (λ y. tt))))
    (gives_if HasKeptShort (b == 6) _ _ (gives_padding HasKeptShort 3 (u32 >>= λ len. if nat_le len longest_text then (bytes len >>= λ text. Done (CutText text)) else padding len (Done (LostText len))) (gives_bind HasKeptShort u32 (λ len. if nat_le len longest_text then (bytes len >>= λ text. Done (CutText text)) else padding len (Done (LostText len)))
    (λ len. text_short len (nat_le len longest_text) refl))) tt)))))

pub gives_after : (P : ClientMessage → Type 0) (r : Reading ClientMessage) (bs : List ℕ) → Gives P r → Gives P (after r bs)
gives_after P r [] k = k
gives_after P r (b ∷ bs) k = gives_after P (step r b) bs (gives_step P r b k)

-- ---- marks

marked_lost : (len : ℕ) (more : List Bool) → marked more (LostText len) ≡ (LostText len, more)
marked_lost len [] = refl
marked_lost len (x ∷ xs) = refl

-- A text that is kept has the mark false, and one that was longer than the longest has none.
kept_marks : (x : ClientMessage) (more : List Bool) → HasKeptShort x → marked (marks_in (text_mark x) ++ more) x ≡ (x, more)
kept_marks (SetPixelFormat format) [] short = refl
kept_marks (SetPixelFormat format) (m ∷ more) short = refl
kept_marks (SetEncodings choice) [] short = refl
kept_marks (SetEncodings choice) (m ∷ more) short = refl
kept_marks (Ask incremental area) [] short = refl
kept_marks (Ask incremental area) (m ∷ more) short = refl
kept_marks (Key down key) [] short = refl
kept_marks (Key down key) (m ∷ more) short = refl
kept_marks (Pointer mask x y) [] short = refl
kept_marks (Pointer mask x y) (m ∷ more) short = refl
kept_marks (CutText text) more short = refl
kept_marks (LostText len) more short =
    ap (λ (b : Bool). marked (marks_in (if b then Some true else None) ++ more) (LostText len)) (is_more len longest_text short) ∙ marked_lost len more

-- A text that is lost, and isn't longer, has the mark true.
lost_marks : (x : ClientMessage) (more : List Bool) → HasKeptShort x → marked (marks_in (text_mark (without_text x)) ++ more) x ≡ (without_text x, more)
lost_marks (SetPixelFormat format) more short = kept_marks (SetPixelFormat format) more short
lost_marks (SetEncodings choice) more short = kept_marks (SetEncodings choice) more short
lost_marks (Ask incremental area) more short = kept_marks (Ask incremental area) more short
lost_marks (Key down key) more short = kept_marks (Key down key) more short
lost_marks (Pointer mask x y) more short = kept_marks (Pointer mask x y) more short
lost_marks (CutText text) more short = ap (λ (b : Bool). marked (marks_in (if b then Some true else None) ++ more) (CutText text)) (is_at_most (length text) longest_text short)
lost_marks (LostText len) more short = kept_marks (LostText len) more short

pub marks_told : (m x : ClientMessage) (more : List Bool) → HasKeptShort x → (m ≡ x) ⊎ (m ≡ without_text x) → marked (marks_in (text_mark m) ++ more) x ≡ (m, more)
marks_told m x more short (inl e) = ap (λ t. marked (marks_in (text_mark t) ++ more) x) e ∙ (kept_marks x more short ∙ ap (λ t. (t, more)) (sym e))
marks_told m x more short (inr e) = ap (λ t. marked (marks_in (text_mark t) ++ more) x) e ∙ (lost_marks x more short ∙ ap (λ t. (t, more)) (sym e))
