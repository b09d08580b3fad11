-- Every message that is written is read back. The laws on messages of both directions are made of it.
use Rattle.std.proofs.Common.{◌≡◌, ℕ, suc, ◌^◌, ◌<◌, ◌≤◌, true, false, not, List, [], ◌∷◌, ◌++◌, length, subst, refl, sym, ap, ◌∙◌, arith}
use Rattle.std.specs.Prelude.{nat_le, if◌then◌else◌}
use Rattle.std.specs.List.{All, flat_map}
use Rattle.std.specs.Int.{w16, w32, to_be_bytes}
use Rattle.std.proofs.lemmas.Bool.{le-leb, lt-leb}
use Rattle.std.proofs.lemmas.List.{append-nil}
use Rattle.byte_reading.specs.Reading.{Reading, Done, Want, ◌>>=◌, bytes, padding, times, u16, u32, unless, Spells}
use Rattle.raster.proofs.Spellings.{Each, spells_done, spells_bind, spells_then, spells_bytes, spells_times}
use Rattle.raster.proofs.Pixels.{spells_u16, spells_u32}
use Rattle.rfb_wire.specs.ClientMessage.{ClientMessage, client_message, choice_of, text, longest_text, SetPixelFormat, SetEncodings}
use Rattle.pixel_format.specs.PixelFormat.{PixelFormat, IsAccepted, accepts, format_at, format_bytes}
use Rattle.fault.specs.declared.kinds.Fault.TheVariants.{BadFormat}
use Rattle.pixel_format.proofs.FormatsBack.{format_back, written_is_accepted}
use Rattle.rfb_wire.specs.Writing.{set_encodings_bytes, set_pixel_format_bytes}

-- One byte more in front.
pub spells_want : {A : Type 0} (more : ℕ → Reading A) (b : ℕ) (bs : List ℕ) (x : A) → Spells (more b) bs x → Spells (Want more) (b ∷ bs) x
spells_want more b bs x h = record { whole = ap suc h.whole; says = h.says }

-- Bytes that aren't looked at.
pub spells_padding : {A : Type 0} (front bs : List ℕ) (rest : Reading A) (x : A) → Spells rest bs x → Spells (padding (length front) rest) (front ++ bs) x
spells_padding [] bs rest x h = h
spells_padding (b ∷ front) bs rest x h = spells_want (λ _. padding (length front) rest) b (front ++ bs) x (spells_padding front bs rest x h)

each_of_all : (P : ℕ → Type 0) (xs : List ℕ) → All P xs → Each P xs
each_of_all P [] h = tt
each_of_all P (x ∷ xs) h = (h 0 0 (omega arith), each_of_all P xs (λ k d lt. h (suc k) d (omega arith)))

each_weak : (P Q : ℕ → Type 0) (xs : List ℕ) → ((x : ℕ) → P x → Q x) → Each P xs → Each Q xs
each_weak P Q [] f h = tt
each_weak P Q (x ∷ xs) f h = (f x h.0, each_weak P Q xs f h.1)

pub set_encodings_is_read : (es : List ℕ) → length es < 2 ^ 16 → All (λ e. e < 2 ^ 32) es → Spells client_message (set_encodings_bytes es) (SetEncodings (choice_of es))
set_encodings_is_read es few small =
    let end : List ℕ → Reading ClientMessage = λ encodings. Done (SetEncodings (choice_of encodings)) in
    let each : Each (λ e. Spells u32 (to_be_bytes w32 e) e) es = each_weak (λ e. e < 2 ^ 32) (λ e. Spells u32 (to_be_bytes w32 e) e) es spells_u32 (each_of_all (λ e. e < 2 ^ 32) es small) in
    let all : Spells (times (length es) u32 >>= end) (flat_map (to_be_bytes w32) es) (SetEncodings (choice_of es)) =
    spells_then (times (length es) u32) end (flat_map (to_be_bytes w32) es) es (SetEncodings (choice_of es)) (spells_times (to_be_bytes w32) u32 es each) refl in
    let counted = spells_bind u16 (λ count. times count u32 >>= end) (to_be_bytes w16 (length es)) (flat_map (to_be_bytes w32) es) (length es) (SetEncodings (choice_of es)) (spells_u16 (length es) few) all in
    record { whole = ap suc (ap suc counted.whole); says = counted.says }

-- ---- texts, in either direction

-- The text is kept or read past, by its length.
abbrev text_behind : {A : Type 0} → (List ℕ → A) → (ℕ → A) → ℕ → Reading A
text_behind kept lost len = if nat_le len longest_text then (bytes len >>= λ t. Done (kept t)) else padding len (Done (lost len))

spells_text : {A : Type 0} (kept : List ℕ → A) (lost : ℕ → A) (t : List ℕ) (x : A) → length t < 2 ^ 32 → Spells (text_behind kept lost (length t)) t x → Spells (text kept lost) (0 ∷ 0 ∷ 0 ∷ to_be_bytes w32 (length t) ++ t) x
spells_text kept lost t x few h =
    let counted = spells_bind u32 (text_behind kept lost) (to_be_bytes w32 (length t)) t (length t) x (spells_u32 (length t) few) h in
    record { whole = ap suc (ap suc (ap suc counted.whole)); says = counted.says }

pub text_is_kept : {A : Type 0} (kept : List ℕ → A) (lost : ℕ → A) (t : List ℕ) → length t ≤ longest_text → Spells (text kept lost) (0 ∷ 0 ∷ 0 ∷ to_be_bytes w32 (length t) ++ t) (kept t)
text_is_kept {A = A} kept lost t short =
    let fits : nat_le (length t) longest_text ≡ true = le-leb (length t) longest_text short in
    let passes : text_behind kept lost (length t) ≡ (bytes (length t) >>= λ u. Done (kept u)) = ap (λ b. if b then (bytes (length t) >>= λ u. Done (kept u)) else padding (length t) (Done (lost (length t)))) fits in
    let said : Spells (bytes (length t) >>= λ u. Done (kept u)) t (kept t) = spells_then (bytes (length t)) (λ u. Done (kept u)) t t (kept t) (spells_bytes t) refl in
    spells_text kept lost t (kept t) (omega arith) (subst (λ (r : Reading A). Spells r t (kept t)) (sym passes) said)

pub text_is_lost : {A : Type 0} (kept : List ℕ → A) (lost : ℕ → A) (t : List ℕ) → longest_text < length t → length t < 2 ^ 32 → Spells (text kept lost) (0 ∷ 0 ∷ 0 ∷ to_be_bytes w32 (length t) ++ t) (lost (length t))
text_is_lost {A = A} kept lost t long few =
    let fits : nat_le (length t) longest_text ≡ false = lt-leb (length t) longest_text long in
    let passes : text_behind kept lost (length t) ≡ padding (length t) (Done (lost (length t))) = ap (λ b. if b then (bytes (length t) >>= λ u. Done (kept u)) else padding (length t) (Done (lost (length t)))) fits in
    let said : Spells (padding (length t) (Done (lost (length t)))) t (lost (length t)) = rw append-nil at (spells_padding t [] (Done (lost (length t))) (lost (length t)) (spells_done (lost (length t)))) in
    spells_text kept lost t (lost (length t)) few (subst (λ (r : Reading A). Spells r t (lost (length t))) (sym passes) said)

-- A format that is written is accepted, and is the one that was meant.
pub set_pixel_format_is_read : (format : PixelFormat) → IsAccepted format → Spells client_message (set_pixel_format_bytes format) (SetPixelFormat format)
set_pixel_format_is_read format ok =
    let judged : List ℕ → Reading ClientMessage = λ field. unless (not (accepts field)) BadFormat (Done (SetPixelFormat (format_at field))) in
    let passes : judged (format_bytes format) ≡ Done (SetPixelFormat format) =
    ap (λ b. unless (not b) BadFormat (Done (SetPixelFormat (format_at (format_bytes format))))) (written_is_accepted format ok) ∙ ap (λ (f : PixelFormat). let m : ClientMessage = SetPixelFormat f in Done m) (format_back format ok) in
    let said = spells_then (bytes 16) judged (format_bytes format) (format_bytes format) (SetPixelFormat format) (spells_bytes (format_bytes format)) passes in
    record { whole = ap suc (ap suc (ap suc (ap suc said.whole))); says = said.says }
