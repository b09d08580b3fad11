-- What a reader of a recording waits for: the line, a block's length, and the rest of the block. Its clauses rest on how
-- many bytes each of them wants, and on what is known once they have come.
use Rattle.std.proofs.Common.{◌≡◌, ℕ, zero, suc, ◌+◌, ◌<◌, ◌≤◌, ◌-◌, inl, inr, min, is_none, ◌&&◌, true, false, if◌then◌else◌, bytes_eq, List, [], ◌∷◌, ◌++◌, length, take, drop, drop-drop, Option, Some, None, Err, refl, sym, ap, subst, ◌∙◌, arith}
use Rattle.std.specs.Int.{w32, from_be_bytes}
use Rattle.std.proofs.lemmas.Bool.{cases_lt, lt-ltb, le-ltb}
use Rattle.std.proofs.lemmas.List.{take-append-drop, length-take, length-drop, drop_all}
use Rattle.std.proofs.lemmas.Slice.Eq.{bytes_eq-Decides}
use Rattle.byte_reading.specs.Reading.{Reading, Done, Faulty, Want, ◌>>=◌, after, taken, wants_more, whole_of, bytes, padding, u32}
use Rattle.byte_reading.proofs.ReadingLaws.{after-append, bind_assoc, taken-nil, none_whole}
use Rattle.byte_reading.proofs.Heads.{head_full}
use Rattle.byte_reading.proofs.InOrder.{then_done}
use Rattle.raster.proofs.Spellings.{spells_bytes_of, spells_front}
use Rattle.recording.specs.Recording.{line, padding_len}
use Rattle.recording.specs.BlockReading.{Found, timed, body, bounded_body, next_block, first_block}
use Rattle.recording.specs.Progress.{form_of, told_len, time_place, block_end, part_end, said_of, time_of, outcome, IsProgress, Uses, ahead, Progress}
use Rattle.recording.specs.declared.bad.BadRecording.TheVariants.{NotARecording, BlockTooLong}
use Rattle.recording.specs.declared.form.TheConstants.{LONGEST_READ}

-- ---- how many bytes a form has

-- It is done after exactly so many bytes, whatever they are.
abbrev pub Exactly : {A : Type 0} → ℕ → Reading A → Type 0
Exactly zero (Done x) = Unit {0}
Exactly zero (Faulty f) = ⊥
Exactly zero (Want more) = ⊥
Exactly (suc n) (Done x) = ⊥
Exactly (suc n) (Faulty f) = ⊥
Exactly (suc n) (Want more) = (b : ℕ) → Exactly n (more b)

-- It wants so many bytes, whatever they are.
abbrev pub AtLeast : {A : Type 0} → ℕ → Reading A → Type 0
AtLeast zero r = Unit {0}
AtLeast (suc n) (Done x) = ⊥
AtLeast (suc n) (Faulty f) = ⊥
AtLeast (suc n) (Want more) = (b : ℕ) → AtLeast n (more b)

exactly_bind : {A B : Type 0} (m n t : ℕ) (form : Reading A) (next : A → Reading B) → t ≡ m + n → Exactly m form → ((x : A) → Exactly n (next x)) → Exactly t (form >>= next)
exactly_bind zero n t (Done x) next e h k = let s : n ≡ t = omega arith in subst (λ (i : ℕ). Exactly i (next x)) s (k x)
exactly_bind zero n t (Faulty f) next e h k = absurd h
exactly_bind zero n t (Want more) next e h k = absurd h
exactly_bind (suc m) n t (Done x) next e h k = absurd h
exactly_bind (suc m) n t (Faulty f) next e h k = absurd h
exactly_bind (suc m) n zero (Want more) next e h k = absurd (omega arith)
exactly_bind (suc m) n (suc t) (Want more) next e h k = λ b. exactly_bind m n t (more b) next (omega arith) (h b) k

exactly_bytes : (n : ℕ) → Exactly n (bytes n)
exactly_bytes zero = tt
exactly_bytes (suc n) = λ b. exactly_bind n 0 n (bytes n) (λ others. Done (b ∷ others)) (omega arith) (exactly_bytes n) (λ others. tt)

exactly_u32 : Exactly 4 u32
exactly_u32 = exactly_bind 4 0 4 (bytes 4) (λ field. Done (from_be_bytes w32 field)) refl (exactly_bytes 4) (λ field. tt)

exactly_padding : {A : Type 0} (p n t : ℕ) (r : Reading A) → t ≡ p + n → Exactly n r → Exactly t (padding p r)
exactly_padding zero n t r e h = let s : n ≡ t = omega arith in subst (λ (i : ℕ). Exactly i r) s h
exactly_padding (suc p) n zero r e h = absurd (omega arith)
exactly_padding (suc p) n (suc t) r e h = λ b. exactly_padding p n t r (omega arith) h

exactly_body : (last len t : ℕ) → t ≡ len + padding_len len + 4 → Exactly t (body last len)
exactly_body last len t e =
    exactly_bind len (padding_len len + 4) t (bytes len) (λ said. padding (padding_len len) (u32 >>= λ time. Done (timed last said time))) (omega (arith, e)) (exactly_bytes len)
    (λ said. exactly_padding (padding_len len) 4 (padding_len len + 4) (u32 >>= λ time. Done (timed last said time)) refl
    (exactly_bind 4 0 4 u32 (λ time. Done (timed last said time)) refl exactly_u32 (λ time. tt)))

at_least : {A : Type 0} (n : ℕ) (r : Reading A) → Exactly n r → AtLeast n r
at_least zero r h = tt
at_least (suc n) (Done x) h = absurd h
at_least (suc n) (Faulty f) h = absurd h
at_least (suc n) (Want more) h = λ b. at_least n (more b) (h b)

at_least_bind : {A B : Type 0} (n : ℕ) (form : Reading A) (next : A → Reading B) → AtLeast n form → AtLeast n (form >>= next)
at_least_bind zero form next h = tt
at_least_bind (suc n) (Done x) next h = absurd h
at_least_bind (suc n) (Faulty f) next h = absurd h
at_least_bind (suc n) (Want more) next h = λ b. at_least_bind n (more b) next (h b)

at_least_after : {A : Type 0} (m n : ℕ) (r : Reading A) (xs : List ℕ) → n ≡ length xs + m → AtLeast n r → AtLeast m (after r xs)
at_least_after m n r [] e h = let s : n ≡ m = omega arith in subst (λ (i : ℕ). AtLeast i r) s h
at_least_after m zero r (b ∷ xs) e h = absurd (omega arith)
at_least_after m (suc n) (Done x) (b ∷ xs) e h = absurd h
at_least_after m (suc n) (Faulty f) (b ∷ xs) e h = absurd h
at_least_after m (suc n) (Want more) (b ∷ xs) e h = at_least_after m n (more b) xs (omega arith) (h b)

pub at_least_wants : {A : Type 0} (n : ℕ) (r : Reading A) → AtLeast n r → 0 < n → wants_more r ≡ true
at_least_wants zero r h lt = absurd (omega arith)
at_least_wants (suc n) (Done x) h lt = absurd h
at_least_wants (suc n) (Faulty f) h lt = absurd h
at_least_wants (suc n) (Want more) h lt = refl

pub at_least_takes : {A : Type 0} (n : ℕ) (r : Reading A) (xs : List ℕ) → AtLeast n r → length xs ≤ n → taken r xs ≡ length xs
at_least_takes n r [] h le = taken-nil r
at_least_takes zero r (b ∷ xs) h le = absurd (omega arith)
at_least_takes (suc n) (Done x) (b ∷ xs) h le = absurd h
at_least_takes (suc n) (Faulty f) (b ∷ xs) h le = absurd h
at_least_takes (suc n) (Want more) (b ∷ xs) h le = ap suc (at_least_takes n (more b) xs (h b) (omega arith))

-- ---- what is known once the bytes have come

-- A number, and then what its value says.
pub u32_then : {A : Type 0} (next : ℕ → Reading A) (xs : List ℕ) → length xs ≡ 4 → after (u32 >>= next) xs ≡ next (from_be_bytes w32 xs)
u32_then next xs e =
    ap (λ r. after r xs) (bind_assoc (bytes 4) (λ field. Done (from_be_bytes w32 field)) next) ∙ head_full 4 (λ field. next (from_be_bytes w32 field)) xs e

bytes_front : (n : ℕ) (xs : List ℕ) → n ≤ length xs → (taken (bytes n) xs ≡ n) × (after (bytes n) xs ≡ Done (take n xs))
bytes_front n xs le =
    let long : length (take n xs) ≡ n = omega (arith, length-take n xs) in
    let front = spells_front (bytes n) (take n xs) (drop n xs) (take n xs) (spells_bytes_of n (take n xs) long) in
    let whole : take n xs ++ drop n xs ≡ xs = take-append-drop n xs in
    (ap (taken (bytes n)) (sym whole) ∙ (front.0 ∙ long), ap (after (bytes n)) (sym whole) ∙ front.1)

padding_over : {A : Type 0} (p : ℕ) (r : Reading A) (xs : List ℕ) → p ≤ length xs → after (padding p r) xs ≡ after r (drop p xs)
padding_over zero r xs le = refl
padding_over (suc p) r [] le = absurd (omega arith)
padding_over (suc p) r (b ∷ xs) le = padding_over p r xs (omega arith)

body_full : (last len : ℕ) (xs : List ℕ) → length xs ≡ len + padding_len len + 4 → after (body last len) xs ≡ Done (timed last (take len xs) (from_be_bytes w32 (drop (padding_len len) (drop len xs))))
body_full last len xs e =
    let front = bytes_front len xs (omega (arith, e)) in
    let next : List ℕ → Reading Found = λ said. padding (padding_len len) (u32 >>= λ time. Done (timed last said time)) in
    let behind : length (drop len xs) ≡ padding_len len + 4 = omega (arith, length-drop len xs, e) in
    let end : length (drop (padding_len len) (drop len xs)) ≡ 4 = omega (arith, length-drop (padding_len len) (drop len xs), behind) in
    then_done (bytes len) next xs (take len xs) front.1
    ∙ (ap (λ n. after (next (take len xs)) (drop n xs)) front.0
    ∙ (padding_over (padding_len len) (u32 >>= λ time. Done (timed last (take len xs) time)) (drop len xs) (omega (arith, behind))
    ∙ u32_then (λ time. Done (timed last (take len xs) time)) (drop (padding_len len) (drop len xs)) end))

-- The line.
pub line_full : (begun : List ℕ) → length begun ≡ 12 → after first_block begun ≡ (if bytes_eq begun line then next_block 0 else Done (Err NotARecording))
unfolding first_block
line_full begun e = head_full 12 (λ field. if bytes_eq field line then next_block 0 else Done (Err NotARecording)) begun e

-- A block's length, and what follows it.
len_full : (last : ℕ) (begun : List ℕ) → 4 ≤ length begun → after (next_block last) begun ≡ after (bounded_body last (told_len begun)) (drop 4 begun)
unfolding next_block
len_full last begun le =
    let long : length (take 4 begun) ≡ 4 = omega (arith, length-take 4 begun) in
    ap (after (u32 >>= bounded_body last)) (sym (take-append-drop 4 begun))
    ∙ (after-append (u32 >>= bounded_body last) (take 4 begun) (drop 4 begun)
    ∙ ap (λ r. after r (drop 4 begun)) (u32_then (bounded_body last) (take 4 begun) long))

-- ---- all parts alike

-- Where a block is looked at again: in each of the three cases.
end_short : (begun : List ℕ) → length begun < 4 → block_end begun ≡ 4
end_short begun lt = rw (lt-ltb (length begun) 4 lt) refl

end_long : (begun : List ℕ) → 4 ≤ length begun → LONGEST_READ < told_len begun → block_end begun ≡ 4
end_long begun le lt = rw (le-ltb (length begun) 4 le, lt-ltb LONGEST_READ (told_len begun) lt) refl

end_whole : (begun : List ℕ) → 4 ≤ length begun → told_len begun ≤ LONGEST_READ → block_end begun ≡ time_place (told_len begun) + 4
end_whole begun le fits = rw (le-ltb (length begun) 4 le, le-ltb LONGEST_READ (told_len begun) fits) refl

bounded : (last len : ℕ) → len ≤ LONGEST_READ → bounded_body last len ≡ body last len
bounded last len fits = rw (le-ltb LONGEST_READ len fits) refl

too_long : (last len : ℕ) → LONGEST_READ < len → bounded_body last len ≡ Done (Err BlockTooLong)
too_long last len lt = rw (lt-ltb LONGEST_READ len lt) refl

head_open : (last : ℕ) (begun : List ℕ) (m : ℕ) → 4 ≡ length begun + m → AtLeast m (after (next_block last) begun)
unfolding next_block
head_open last begun m e = at_least_after m 4 (u32 >>= bounded_body last) begun e (at_least_bind 4 u32 (bounded_body last) (at_least 4 u32 exactly_u32))

body_open : (last : ℕ) (begun : List ℕ) (m : ℕ) → 4 ≤ length begun → told_len begun ≤ LONGEST_READ → time_place (told_len begun) + 4 ≡ length begun + m → AtLeast m (after (next_block last) begun)
body_open last begun m le fits e =
    let len : ℕ = told_len begun in
    let all : ℕ = len + padding_len len + 4 in
    let into : after (next_block last) begun ≡ after (body last len) (drop 4 begun) = len_full last begun le ∙ ap (λ r. after r (drop 4 begun)) (bounded last len fits) in
    let left : all ≡ length (drop 4 begun) + m = omega (arith, length-drop 4 begun, e, le) in
    subst (AtLeast m) (sym into) (at_least_after m all (body last len) (drop 4 begun) left (at_least all (body last len) (exactly_body last len all refl)))

block_open : (last : ℕ) (begun : List ℕ) (m : ℕ) → block_end begun ≡ length begun + m → AtLeast m (after (next_block last) begun)
block_open last begun m e =
    elim (cases_lt (length begun) 4) [
      | inl lt ↦ head_open last begun m (sym (end_short begun lt) ∙ e)
      | inr le ↦
          elim (cases_lt LONGEST_READ (told_len begun)) [
            | inl long ↦ head_open last begun m (sym (end_long begun le long) ∙ e)
            | inr fits ↦ body_open last begun m le fits (sym (end_whole begun le fits) ∙ e)
          ]
    ]

-- As many bytes are wanted as are missing of the part.
pub part_open : (last : Option ℕ) (begun : List ℕ) (m : ℕ) → part_end last begun ≡ length begun + m → AtLeast m (after (form_of last) begun)
unfolding first_block
part_open None begun m e =
    let next : List ℕ → Reading Found = λ field. if bytes_eq field line then next_block 0 else Done (Err NotARecording) in
    at_least_after m 12 (bytes 12 >>= next) begun e (at_least_bind 12 (bytes 12) next (at_least 12 (bytes 12) (exactly_bytes 12)))
part_open (Some last) begun m e = block_open last begun m e

-- And where none is missing it is known what was read.
long_full : (last : ℕ) (begun : List ℕ) → length begun ≡ 4 → LONGEST_READ < told_len begun → after (next_block last) begun ≡ Done (outcome (Some last) begun)
long_full last begun e long =
    let none : drop 4 begun ≡ [] = drop_all 4 begun (omega (arith, e)) in
    len_full last begun (omega (arith, e))
    ∙ (ap (after (bounded_body last (told_len begun))) none
    ∙ (too_long last (told_len begun) long ∙ sym (rw (lt-ltb LONGEST_READ (told_len begun) long) refl)))

whole_full : (last : ℕ) (begun : List ℕ) → 4 ≤ length begun → told_len begun ≤ LONGEST_READ → length begun ≡ time_place (told_len begun) + 4 → after (next_block last) begun ≡ Done (outcome (Some last) begun)
whole_full last begun le fits e =
    let len : ℕ = told_len begun in
    let behind : length (drop 4 begun) ≡ len + padding_len len + 4 = omega (arith, length-drop 4 begun, e) in
    let place : drop (padding_len len) (drop len (drop 4 begun)) ≡ drop (time_place len) begun = drop-drop (padding_len len) len (drop 4 begun) ∙ (drop-drop (len + padding_len len) 4 begun ∙ ap (λ (n : ℕ). drop n begun) (omega arith)) in
    let time : from_be_bytes w32 (drop (padding_len len) (drop len (drop 4 begun))) ≡ time_of begun = ap (from_be_bytes w32) place in
    let same : timed last (said_of begun) (time_of begun) ≡ outcome (Some last) begun = rw (le-ltb LONGEST_READ len fits) refl in
    len_full last begun le
    ∙ (ap (λ r. after r (drop 4 begun)) (bounded last len fits)
    ∙ (body_full last len (drop 4 begun) behind ∙ (ap (λ (t : ℕ). Done (timed last (said_of begun) t)) time ∙ ap (λ (x : Found). Done x) same)))

block_full : (last : ℕ) (begun : List ℕ) → length begun ≡ block_end begun → after (next_block last) begun ≡ Done (outcome (Some last) begun)
block_full last begun e =
    elim (cases_lt (length begun) 4) [
      | inl lt ↦ absurd (omega (arith, e, end_short begun lt, lt))
      | inr le ↦
          elim (cases_lt LONGEST_READ (told_len begun)) [
            | inl long ↦ long_full last begun (e ∙ end_long begun le long) long
            | inr fits ↦ whole_full last begun le fits (e ∙ end_whole begun le fits)
          ]
    ]

pub part_full : (last : Option ℕ) (begun : List ℕ) → IsProgress last begun → length begun ≡ part_end last begun → after (form_of last) begun ≡ Done (outcome last begun)
part_full None begun h e =
    let no : (if bytes_eq begun line then next_block 0 else Done (Err NotARecording)) ≡ Done (Err NotARecording) = rw (h.no_line refl) refl in
    line_full begun e ∙ no
part_full (Some last) begun h e = block_full last begun e

-- The whole line is no part any more: the first block begins.
pub line_over : (begun : List ℕ) → bytes_eq begun line ≡ true → after first_block begun ≡ next_block 0
line_over begun e =
    let same : begun ≡ line = (bytes_eq-Decides begun line).0 e in
    let is : (if bytes_eq begun line then next_block 0 else Done (Err NotARecording)) ≡ next_block 0 = rw e refl in
    line_full begun (ap length same) ∙ is

-- ---- what a reader does

-- So many bytes of a piece are used.
pub part_used : (last : Option ℕ) (begun piece : List ℕ) (new : Reading Found) (n : ℕ) → IsProgress last begun → n ≡ min (length piece) (part_end last begun - length begun)
    → new ≡ after (form_of last) (begun ++ take n piece) → Uses (after (form_of last) begun) new piece n
part_used last begun piece new n h is goes =
    let m : ℕ = part_end last begun - length begun in
    let wants : AtLeast m (after (form_of last) begun) = part_open last begun m (omega (arith, h.within)) in
    let long : length (take n piece) ≡ n = omega (arith, length-take n piece, is) in
    record {
      fits = omega (arith, is);
      goes_on = goes ∙ after-append (form_of last) begun (take n piece);
      all = at_least_takes m (after (form_of last) begun) (take n piece) wants (omega (arith, long, is)) ∙ long;
      some = λ w some.
          elim (cases_lt (length begun) (part_end last begun)) [
            | inl lt ↦ omega (arith, is, lt, some)
            | inr le ↦
                let full = part_full last begun h (omega (arith, le, h.within)) in
                absurd (let no : false ≡ true = sym (ap wants_more full) ∙ w in cc)
          ];
    }

-- The line is whole, and what was held of it is let go.
pub begins : (last : Option ℕ) (all cleared : List ℕ) → (is_none last && bytes_eq all line) ≡ true → cleared ≡ [] → after (next_block 0) cleared ≡ after (form_of last) all
begins None all cleared e none = ap (after (next_block 0)) none ∙ sym (line_over all e)
begins (Some t) all cleared e none = absurd cc

-- Whether the line or the block is whole, and what is known then.
pub none_yet : (now : Progress) (last : Option ℕ) (begun : List ℕ) → record { last = last; begun = begun } ≡ now → length begun < part_end last begun → whole_of (ahead now) ≡ None
none_yet now last begun is lt =
    let m : ℕ = part_end last begun - length begun in
    let wants : wants_more (after (form_of last) begun) ≡ true = at_least_wants m (after (form_of last) begun) (part_open last begun m (omega (arith, lt))) (omega (arith, lt)) in
    subst (λ (p : Progress). whole_of (ahead p) ≡ None) is (none_whole (after (form_of last) begun) wants)

pub some_whole : (now : Progress) (last : Option ℕ) (begun : List ℕ) → record { last = last; begun = begun } ≡ now → IsProgress last begun → part_end last begun ≤ length begun → whole_of (ahead now) ≡ Some (outcome last begun)
some_whole now last begun is h le =
    let full : after (form_of last) begun ≡ Done (outcome last begun) = part_full last begun h (omega (arith, le, h.within)) in
    subst (λ (p : Progress). whole_of (ahead p) ≡ Some (outcome last begun)) is (ap whole_of full)

-- A block has a length, and where that is within the bound, all of it.
pub has_len : (last : Option ℕ) (l : ℕ) (begun : List ℕ) → last ≡ Some l → part_end last begun ≤ length begun → 4 ≤ length begun
has_len last l begun is le =
    let end : block_end begun ≤ length begun = subst (λ (o : Option ℕ). part_end o begun ≤ length begun) is le in
    elim (cases_lt (length begun) 4) [ inl lt ↦ absurd (omega (arith, end, end_short begun lt, lt)) | inr enough ↦ enough ]

pub has_all : (last : Option ℕ) (l : ℕ) (begun : List ℕ) → last ≡ Some l → IsProgress last begun → part_end last begun ≤ length begun → told_len begun ≤ LONGEST_READ → length begun ≡ time_place (told_len begun) + 4
has_all last l begun is h le fits =
    let end : block_end begun ≤ length begun = subst (λ (o : Option ℕ). part_end o begun ≤ length begun) is le in
    let within : length begun ≤ block_end begun = subst (λ (o : Option ℕ). length begun ≤ part_end o begun) is h.within in
    omega (arith, end, within, end_whole begun (has_len last l begun is le) fits)
