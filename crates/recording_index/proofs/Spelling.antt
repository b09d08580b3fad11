-- Bytes that are read without a fault are spelled by what is read: an index has no second spelling.
use Rattle.std.proofs.Common.{◌≡◌, ℕ, zero, suc, ◌*◌, ◌-◌, ◌/◌, ◌%◌, ◌<◌, ◌≤◌, ◌^◌, true, false, Bool, if◌then◌else◌, List, [], ◌∷◌, ◌++◌, length, take, drop, drop-drop, Option, Some, None, refl, sym, ap, ◌∙◌, arith, append_assoc, length-take, length-drop, get_or, inl, inr}
use Rattle.std.specs.Prelude.{All}
use Rattle.std.specs.Int.{w32, w64, to_be_bytes, from_be_bytes}
use Rattle.std.proofs.lemmas.Bool.{cases_lt, lt-ltb, le-ltb}
use Rattle.std.proofs.lemmas.List.{take-append-drop, take_all, get_or_past}
use Rattle.std.proofs.lemmas.List.Elements.{All-take, All-drop}
use Rattle.std.proofs.lemmas.Slice.Eq.{bytes_eq-Decides}
use Rattle.std.proofs.lemmas.Nat.{be_bytes_4, be_bytes_8}
use Rattle.recording_index.specs.IndexBytes.{line, entry_bytes, entries_bytes, index_bytes, start, AreMomentsAfter, AreMoments}
use Rattle.recording_index.specs.IndexReading.{moment_of, moments_of, moments_in, fault_at, fault_after, first_of, begins_as_line, fault_in}
use Rattle.recording_index.specs.declared.bad.BadIndex.{BadIndex}
use Rattle.recording_index.specs.declared.bad.BadIndex.TheVariants.{NotAnIndex, TimeGoesBack, PlaceGoesBack}
use Rattle.recording_index.specs.declared.moment.KeyMoment.{KeyMoment}

abbrev AreBytes : List ℕ → Type 0
AreBytes bytes = All (λ b. b < 256) bytes

-- ---- one entry

each_byte : (bytes : List ℕ) → AreBytes bytes → (i : ℕ) → get_or bytes i 0 < 256
each_byte bytes h i =
    elim (cases_lt i (length bytes)) [
      | inl lt ↦ h i 0 lt
      | inr le ↦ omega (arith, get_or_past bytes i 0 le)
    ]

four_fit : (bytes : List ℕ) → ((i : ℕ) → get_or bytes i 0 < 256) → from_be_bytes w32 bytes < 2 ^ 32
four_fit bytes h = omega (arith, h 0, h 1, h 2, h 3)

eight_fit : (bytes : List ℕ) → ((i : ℕ) → get_or bytes i 0 < 256) → from_be_bytes w64 bytes < 2 ^ 64
eight_fit bytes h = omega (arith, h 0, h 1, h 2, h 3, h 4, h 5, h 6, h 7)

drop_bytes : (bytes : List ℕ) → AreBytes bytes → AreBytes (drop 12 bytes)
drop_bytes bytes h = All-drop (λ b. b < 256) 12 bytes h

moment_fits : (bytes : List ℕ) → AreBytes bytes → ((moment_of bytes).time < 2 ^ 32) × ((moment_of bytes).place < 2 ^ 64)
unfolding moment_of
moment_fits bytes h =
    let place : AreBytes (take 8 (drop 4 bytes)) = All-take (λ b. b < 256) 8 (drop 4 bytes) (All-drop (λ b. b < 256) 4 bytes h) in
    (four_fit (take 4 bytes) (each_byte (take 4 bytes) (All-take (λ b. b < 256) 4 bytes h)), eight_fit (take 8 (drop 4 bytes)) (each_byte (take 8 (drop 4 bytes)) place))

entry_spelled : (bytes more : List ℕ) → AreBytes bytes → 12 ≤ length bytes → more ≡ drop 12 bytes → entry_bytes (moment_of bytes) ++ more ≡ bytes
unfolding moment_of entry_bytes
entry_spelled bytes more h le is =
    let field : List ℕ = take 4 bytes in
    let other : List ℕ = take 8 (drop 4 bytes) in
    let field_bytes : AreBytes field = All-take (λ b. b < 256) 4 bytes h in
    let other_bytes : AreBytes other = All-take (λ b. b < 256) 8 (drop 4 bytes) (All-drop (λ b. b < 256) 4 bytes h) in
    let field_len : length field ≡ 4 = omega (arith, length-take 4 bytes, le) in
    let other_len : length other ≡ 8 = omega (arith, length-take 8 (drop 4 bytes), length-drop 4 bytes, le) in
    let time : to_be_bytes w32 (from_be_bytes w32 field) ≡ field = be_bytes_4 field (from_be_bytes w32 field) field_len (each_byte field field_bytes) refl in
    let place : to_be_bytes w64 (from_be_bytes w64 other) ≡ other = be_bytes_8 other (from_be_bytes w64 other) other_len (each_byte other other_bytes) refl in
    let behind : other ++ more ≡ drop 4 bytes = ap (λ (t : List ℕ). other ++ t) (is ∙ sym (drop-drop 8 4 bytes)) ∙ take-append-drop 8 (drop 4 bytes) in
    ap (λ (f : List ℕ). (f ++ to_be_bytes w64 (from_be_bytes w64 other)) ++ more) time
    ∙ (ap (λ (o : List ℕ). (field ++ o) ++ more) place
    ∙ (append_assoc field other more
    ∙ (ap (λ (t : List ℕ). field ++ t) behind ∙ take-append-drop 4 bytes)))

-- ---- all entries

entries_spelled : (k : ℕ) (bytes : List ℕ) → AreBytes bytes → length bytes ≡ 12 * k → entries_bytes (moments_of k bytes) ≡ bytes
entries_spelled zero [] h e = refl
entries_spelled zero (b ∷ bytes) h e = absurd (omega (arith, e))
entries_spelled (suc k) bytes h e = entry_spelled bytes (entries_bytes (moments_of k (drop 12 bytes))) h (omega (arith, e)) (entries_spelled k (drop 12 bytes) (drop_bytes bytes h) (omega (arith, length-drop 12 bytes, e)))

-- ---- no fault

first_none : (one later : Option BadIndex) → first_of one later ≡ None → (one ≡ None) × (later ≡ None)
first_none None later e = (refl, e)
first_none (Some bad) later e = absurd cc

fine_says : (before m : KeyMoment) → fault_at before m ≡ None → (before.time ≤ m.time) × (before.place ≤ m.place)
fine_says before m e =
    elim (cases_lt m.time before.time) [
      | inl lt ↦ let back : fault_at before m ≡ Some TimeGoesBack = rw (lt-ltb m.time before.time lt) refl in absurd (let no : Some TimeGoesBack ≡ None = sym back ∙ e in cc)
      | inr le ↦
          elim (cases_lt m.place before.place) [
            | inl lt ↦ let back : fault_at before m ≡ Some PlaceGoesBack = rw (le-ltb m.time before.time le, lt-ltb m.place before.place lt) refl in absurd (let no : Some PlaceGoesBack ≡ None = sym back ∙ e in cc)
            | inr also ↦ (le, also)
          ]
    ]

all_in_order : (before : KeyMoment) (k : ℕ) (bytes : List ℕ) → AreBytes bytes → fault_after before (moments_of k bytes) ≡ None → AreMomentsAfter before (moments_of k bytes)
all_in_order before zero bytes h e = tt
all_in_order before (suc k) bytes h e =
    let both = first_none (fault_at before (moment_of bytes)) (fault_after (moment_of bytes) (moments_of k (drop 12 bytes))) e in
    let says = fine_says before (moment_of bytes) both.0 in
    let fits = moment_fits bytes h in
    (says.0, says.1, fits.0, fits.1, all_in_order (moment_of bytes) k (drop 12 bytes) (drop_bytes bytes h) both.1)

-- ---- a whole index

line_or_fault : (begins : Bool) (later : Option BadIndex) → (if begins then later else Some NotAnIndex) ≡ None → (begins ≡ true) × (later ≡ None)
line_or_fault true later e = (refl, e)
line_or_fault false later e = absurd cc

no_fault : (bytes : List ℕ) → fault_in bytes ≡ None → (begins_as_line bytes ≡ true) × (fault_after start (moments_in bytes) ≡ None)
unfolding fault_in
no_fault bytes e = line_or_fault (begins_as_line bytes) (fault_after start (moments_in bytes)) e

pub read_in_order : (bytes : List ℕ) → All (λ b. b < 256) bytes → fault_in bytes ≡ None → AreMoments (moments_in bytes)
unfolding moments_in
read_in_order bytes h e = all_in_order start (length (drop 12 bytes) / 12) (drop 12 bytes) (All-drop (λ b. b < 256) 12 bytes h) (no_fault bytes e).1

front_line : (bytes : List ℕ) → begins_as_line bytes ≡ true → 12 ≤ length bytes → take 12 bytes ≡ line
unfolding begins_as_line
front_line bytes e le = (bytes_eq-Decides (take 12 bytes) (take (length bytes) line)).0 e ∙ take_all (length bytes) line (omega (arith, le))

entries_fit : (n : ℕ) → 12 ≤ n → n % 12 ≡ 0 → n - 12 ≡ 12 * ((n - 12) / 12)
entries_fit n le e = omega (arith, le, e)

pub spelled_again : (bytes : List ℕ) → All (λ b. b < 256) bytes → fault_in bytes ≡ None → 12 ≤ length bytes → length bytes % 12 ≡ 0 → index_bytes (moments_in bytes) ≡ bytes
unfolding index_bytes moments_in
spelled_again bytes h e le whole =
    let behind : List ℕ = drop 12 bytes in
    let len : length behind ≡ 12 * (length behind / 12) = rw (length-drop 12 bytes) (entries_fit (length bytes) le whole) in
    let entries : entries_bytes (moments_of (length behind / 12) behind) ≡ behind = entries_spelled (length behind / 12) behind (All-drop (λ b. b < 256) 12 bytes h) len in
    let front : line ≡ take 12 bytes = sym (front_line bytes (no_fault bytes e).0 le) in
    ap (λ (xs : List ℕ). line ++ xs) entries ∙ (ap (λ (xs : List ℕ). xs ++ behind) front ∙ take-append-drop 12 bytes)
