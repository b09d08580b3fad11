-- Forms of a length that is known before they are read. Readers wait for all of their bytes, and judge them together.
use Rattle.std.proofs.Common.{◌≡◌, ℕ, zero, suc, ◌+◌, ◌<◌, ◌≤◌, true, List, [], ◌∷◌, length, refl, ap, arith}
use Rattle.std.specs.Int.{w32, from_be_bytes}
use Rattle.pixel_format.specs.PixelFormat.{PixelFormat, pixel_len, pixel_of}
use Rattle.byte_reading.specs.Reading.{Reading, Done, Faulty, Want, ◌>>=◌, after, taken, wants_more, bytes, u32, Spells}
use Rattle.raster.specs.Encoding.{rect_in, pixel, rect}
use Rattle.raster.proofs.Spellings.{spells_bytes_of, spells_then}

-- It is done after this many bytes, whatever they are.
abbrev pub Exactly : {A : Type 0} → ℕ → Reading A → Type 0
Exactly zero (Done x) = Unit {0}
Exactly zero (Faulty f) = ⊥
Exactly zero (Want more) = ⊥
Exactly (suc n) (Done x) = ⊥
Exactly (suc n) (Faulty f) = ⊥
Exactly (suc n) (Want more) = (b : ℕ) → Exactly n (more b)

-- It takes at least this many bytes, whatever they are.
abbrev pub Needs : {A : Type 0} → ℕ → Reading A → Type 0
Needs zero r = Unit {0}
Needs (suc n) (Done x) = ⊥
Needs (suc n) (Faulty f) = ⊥
Needs (suc n) (Want more) = (b : ℕ) → Needs n (more b)

pub exactly_then : {A B : Type 0} (n : ℕ) (form : Reading A) (next : A → Reading B) → Exactly n form → ((x : A) → Exactly 0 (next x)) → Exactly n (form >>= next)
exactly_then zero (Done x) next h f = f x
exactly_then zero (Faulty g) next h f = absurd h
exactly_then zero (Want more) next h f = absurd h
exactly_then (suc n) (Done x) next h f = absurd h
exactly_then (suc n) (Faulty g) next h f = absurd h
exactly_then (suc n) (Want more) next h f = λ b. exactly_then n (more b) next (h b) f

pub exactly_bytes : (n : ℕ) → Exactly n (bytes n)
exactly_bytes zero = tt
exactly_bytes (suc n) = λ b. exactly_then n (bytes n) (λ others. Done (b ∷ others)) (exactly_bytes n) (λ others. tt)

-- A form that comes first is needed, and the one after it too.
pub needs_first : {A B : Type 0} (n : ℕ) (form : Reading A) (next : A → Reading B) → Needs n form → Needs n (form >>= next)
needs_first zero form next h = tt
needs_first (suc n) (Done x) next h = absurd h
needs_first (suc n) (Faulty g) next h = absurd h
needs_first (suc n) (Want more) next h = λ b. needs_first n (more b) next (h b)

pub exactly_needs : {A : Type 0} (n : ℕ) (form : Reading A) → Exactly n form → Needs n form
exactly_needs zero form h = tt
exactly_needs (suc n) (Done x) h = absurd h
exactly_needs (suc n) (Faulty g) h = absurd h
exactly_needs (suc n) (Want more) h = λ b. exactly_needs n (more b) (h b)

pub needs_both : {A B : Type 0} (n m : ℕ) (form : Reading A) (next : A → Reading B) → Exactly n form → ((x : A) → Needs m (next x)) → Needs (n + m) (form >>= next)
needs_both zero m (Done x) next h f = let e : 0 + m ≡ m = omega arith in rw e (f x)
needs_both zero m (Faulty g) next h f = absurd h
needs_both zero m (Want more) next h f = absurd h
needs_both (suc n) m (Done x) next h f = absurd h
needs_both (suc n) m (Faulty g) next h f = absurd h
needs_both (suc n) m (Want more) next h f = let e : suc n + m ≡ suc (n + m) = omega arith in rw e (λ b. needs_both n m (more b) next (h b) f)

-- Of the bytes that are needed all are taken.
pub needs_takes : {A : Type 0} (n : ℕ) (form : Reading A) (bs : List ℕ) → Needs n form → length bs ≤ n → taken form bs ≡ length bs
needs_takes n (Done x) [] h le = refl
needs_takes n (Faulty g) [] h le = refl
needs_takes n (Want more) [] h le = refl
needs_takes zero form (b ∷ bs) h le = absurd (omega arith)
needs_takes (suc n) (Done x) (b ∷ bs) h le = absurd h
needs_takes (suc n) (Faulty g) (b ∷ bs) h le = absurd h
needs_takes (suc n) (Want more) (b ∷ bs) h le = ap suc (needs_takes n (more b) bs (h b) (omega arith))

pub needs_after : {A : Type 0} (n m : ℕ) (form : Reading A) (bs : List ℕ) → Needs n form → n ≡ length bs + m → Needs m (after form bs)
needs_after n m form [] h e = let same : n ≡ m = omega arith in rw same at h
needs_after zero m form (b ∷ bs) h e = absurd (omega arith)
needs_after (suc n) m (Done x) (b ∷ bs) h e = absurd h
needs_after (suc n) m (Faulty g) (b ∷ bs) h e = absurd h
needs_after (suc n) m (Want more) (b ∷ bs) h e = needs_after n m (more b) bs (h b) (omega arith)

pub needs_wants : {A : Type 0} (n : ℕ) (form : Reading A) → Needs n form → 0 < n → wants_more form ≡ true
needs_wants zero form h lt = absurd (omega arith)
needs_wants (suc n) (Done x) h lt = absurd h
needs_wants (suc n) (Faulty g) h lt = absurd h
needs_wants (suc n) (Want more) h lt = refl

-- ---- fields

pub exactly_pixel : (format : PixelFormat) → Exactly (pixel_len format) (pixel format)
exactly_pixel format = exactly_then (pixel_len format) (bytes (pixel_len format)) (λ field. Done (pixel_of format field)) (exactly_bytes (pixel_len format)) (λ field. tt)

pub exactly_u32 : Exactly 4 u32
exactly_u32 = λ a b c d. tt

pub exactly_rect : Exactly 8 rect
exactly_rect = λ a b c d e f g h. tt

-- What they say.
pub pixel_says : (format : PixelFormat) (bs : List ℕ) → length bs ≡ pixel_len format → Spells (pixel format) bs (pixel_of format bs)
pixel_says format bs e = spells_then (bytes (pixel_len format)) (λ field. Done (pixel_of format field)) bs bs (pixel_of format bs) (spells_bytes_of (pixel_len format) bs e) refl

pub u32_says : (bs : List ℕ) → length bs ≡ 4 → Spells u32 bs (from_be_bytes w32 bs)
u32_says bs e = spells_then (bytes 4) (λ field. Done (from_be_bytes w32 field)) bs bs (from_be_bytes w32 bs) (spells_bytes_of 4 bs e) refl

pub rect_says : (bs : List ℕ) → length bs ≡ 8 → Spells rect bs (rect_in bs)
rect_says [] e = absurd (omega arith)
rect_says (a ∷ []) e = absurd (omega arith)
rect_says (a ∷ b ∷ []) e = absurd (omega arith)
rect_says (a ∷ b ∷ c ∷ []) e = absurd (omega arith)
rect_says (a ∷ b ∷ c ∷ d ∷ []) e = absurd (omega arith)
rect_says (a ∷ b ∷ c ∷ d ∷ f ∷ []) e = absurd (omega arith)
rect_says (a ∷ b ∷ c ∷ d ∷ f ∷ g ∷ []) e = absurd (omega arith)
rect_says (a ∷ b ∷ c ∷ d ∷ f ∷ g ∷ h ∷ []) e = absurd (omega arith)
rect_says (a ∷ b ∷ c ∷ d ∷ f ∷ g ∷ h ∷ i ∷ []) e = record { whole = refl; says = refl }
rect_says (a ∷ b ∷ c ∷ d ∷ f ∷ g ∷ h ∷ i ∷ j ∷ bs) e = absurd (omega arith)
