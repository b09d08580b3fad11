-- An index is read as it was written, wherever it is cut off: each entry, and all of them.
use Rattle.std.proofs.Common.{◌≡◌, ℕ, zero, suc, ◌+◌, ◌*◌, ◌-◌, ◌/◌, ◌<◌, ◌≤◌, ◌^◌, min, true, false, bytes_eq, List, [], ◌∷◌, ◌++◌, length, take, drop, Option, Some, None, refl, sym, ap, ◌∙◌, arith, append_assoc, append-nil, length-append, length-drop, get_or, inl, inr}
use Rattle.std.specs.Int.{w64, to_be_bytes, from_be_bytes}
use Rattle.std.proofs.lemmas.Bool.{cases_lt, le-ltb}
use Rattle.std.proofs.lemmas.List.{take-append-drop, append_cancel_left, take-append-le, drop-append-le, drop_all, take_all}
use Rattle.std.proofs.Math.Nat.{mul-div-le, mul-div_cancel_left}
use Rattle.std.proofs.lemmas.Slice.Eq.{bytes_eq-Decides}
use Rattle.std.proofs.lemmas.Nat.{from_be_bytes-to_be_bytes_4, from_be_bytes-to_be_bytes_8}
use Rattle.recording_index.specs.IndexBytes.{line, entry_bytes, entries_bytes, index_bytes, start, AreMomentsAfter, AreMoments}
use Rattle.recording_index.specs.IndexReading.{moment_of, moments_of, moments_in, fault_at, fault_after, first_of, begins_as_line, fault_in}
use Rattle.recording_index.specs.declared.bad.BadIndex.{BadIndex}
use Rattle.recording_index.specs.declared.bad.BadIndex.TheVariants.{NotAnIndex}
use Rattle.recording_index.specs.declared.moment.KeyMoment.{KeyMoment}

-- ---- one entry

pub entry_len : (m : KeyMoment) → length (entry_bytes m) ≡ 12
unfolding entry_bytes
entry_len m = refl

abbrev moment_with : ℕ → ℕ → KeyMoment
moment_with time place = record { time = time; place = place }

pub entry_is_read : (m : KeyMoment) (more : List ℕ) → m.time < 2 ^ 32 → m.place < 2 ^ 64 → moment_of (entry_bytes m ++ more) ≡ m
unfolding entry_bytes moment_of
entry_is_read m more time place =
    ap (λ (t : ℕ). moment_with t (from_be_bytes w64 (to_be_bytes w64 m.place))) (from_be_bytes-to_be_bytes_4 m.time time)
    ∙ ap (λ (p : ℕ). moment_with m.time p) (from_be_bytes-to_be_bytes_8 m.place place)

front_of : (m : KeyMoment) (more : List ℕ) → take 12 (entry_bytes m ++ more) ≡ entry_bytes m
unfolding entry_bytes
front_of m more = refl

-- ---- all entries

pub entries_len : (moments : List KeyMoment) → length (entries_bytes moments) ≡ 12 * length moments
entries_len [] = refl
entries_len (m ∷ moments) = omega (arith, length-append (entry_bytes m) (entries_bytes moments), entry_len m, entries_len moments)

-- The front of entries is an entry and what follows it.
front_entry : (m : KeyMoment) (rest bytes back : List ℕ) → entry_bytes m ++ rest ≡ bytes ++ back → 12 ≤ length bytes → (bytes ≡ entry_bytes m ++ drop 12 bytes) × (rest ≡ drop 12 bytes ++ back)
front_entry m rest bytes back e le =
    let front : take 12 bytes ≡ entry_bytes m = sym (take-append-le 12 bytes back le) ∙ (ap (take 12) (sym e) ∙ front_of m rest) in
    let whole : bytes ≡ entry_bytes m ++ drop 12 bytes = sym (take-append-drop 12 bytes) ∙ ap (λ (xs : List ℕ). xs ++ drop 12 bytes) front in
    let all : entry_bytes m ++ rest ≡ entry_bytes m ++ (drop 12 bytes ++ back) = e ∙ (ap (λ (xs : List ℕ). xs ++ back) whole ∙ append_assoc (entry_bytes m) (drop 12 bytes) back) in
    (whole, append_cancel_left (entry_bytes m) rest (drop 12 bytes ++ back) all)

-- As many key moments are read as bytes have come for.
pub front_is_read : (before : KeyMoment) (moments : List KeyMoment) (k : ℕ) (bytes back : List ℕ) → AreMomentsAfter before moments → entries_bytes moments ≡ bytes ++ back → 12 * k ≤ length bytes → moments_of k bytes ≡ take k moments
front_is_read before moments zero bytes back h e le = refl
front_is_read before [] (suc k) bytes back h e le = absurd (omega (arith, ap length e, length-append bytes back, le))
front_is_read before (m ∷ moments) (suc k) bytes back h e le =
    let front = front_entry m (entries_bytes moments) bytes back e (omega (arith, le)) in
    let one : moment_of bytes ≡ m = ap moment_of front.0 ∙ entry_is_read m (drop 12 bytes) h.2 h.3 in
    let more : moments_of k (drop 12 bytes) ≡ take k moments = front_is_read m moments k (drop 12 bytes) back h.4 front.1 (omega (arith, length-drop 12 bytes, le)) in
    ap (λ (x : KeyMoment). x ∷ moments_of k (drop 12 bytes)) one ∙ ap (λ (xs : List KeyMoment). m ∷ xs) more

-- ---- no fault

fine_at : (before m : KeyMoment) → before.time ≤ m.time → before.place ≤ m.place → fault_at before m ≡ None
fine_at before m time place = rw (le-ltb m.time before.time time, le-ltb m.place before.place place) refl

pub front_is_fine : (before : KeyMoment) (moments : List KeyMoment) (k : ℕ) → AreMomentsAfter before moments → fault_after before (take k moments) ≡ None
front_is_fine before moments zero h = refl
front_is_fine before [] (suc k) h = refl
front_is_fine before (m ∷ moments) (suc k) h = rw (fine_at before m h.0 h.1) (front_is_fine m moments k h.4)

-- ---- what the reader does

-- The line is looked at as far as bytes have come.
pub line_test : (bytes : List ℕ) (n : ℕ) → n ≡ min (length bytes) 12 → bytes_eq (take n bytes) (take n line) ≡ begins_as_line bytes
unfolding begins_as_line
line_test bytes n is =
    elim (cases_lt (length bytes) 12) [
      | inl lt ↦
          let all : n ≡ length bytes = omega (arith, is, lt) in
          let front : take n bytes ≡ take 12 bytes = take_all n bytes (omega (arith, all)) ∙ sym (take_all 12 bytes (omega (arith, lt))) in
          ap (λ (xs : List ℕ). bytes_eq xs (take n line)) front ∙ ap (λ (k : ℕ). bytes_eq (take 12 bytes) (take k line)) all
      | inr le ↦
          let all : n ≡ 12 = omega (arith, is, le) in
          let whole : take n line ≡ take (length bytes) line = take_all n line (omega (arith, all)) ∙ sym (take_all (length bytes) line (omega (arith, le))) in
          ap (λ (xs : List ℕ). bytes_eq (take n bytes) xs) whole ∙ ap (λ (k : ℕ). bytes_eq (take k bytes) (take (length bytes) line)) all
    ]

pub no_line : (bytes : List ℕ) → begins_as_line bytes ≡ false → fault_in bytes ≡ Some NotAnIndex
unfolding fault_in
no_line bytes e = rw e refl

-- After the line, what is wrong with the entries is wrong with the index.
pub behind_the_line : (bytes entries : List ℕ) (found : List KeyMoment) (fault : Option BadIndex) → begins_as_line bytes ≡ true → entries ≡ drop 12 bytes
    → found ≡ moments_of (length entries / 12) entries → fault_after start (moments_of (length entries / 12) entries) ≡ fault → (found ≡ moments_in bytes) × (fault_in bytes ≡ fault)
unfolding fault_in moments_in
behind_the_line bytes entries found fault e is all says =
    let alike : moments_of (length entries / 12) entries ≡ moments_of (length (drop 12 bytes) / 12) (drop 12 bytes) = ap (λ (xs : List ℕ). moments_of (length xs / 12) xs) is in
    (all ∙ alike, rw e (ap (fault_after start) (sym alike) ∙ says))

-- The entries follow the line, where it is whole.
pub entries_behind : (bytes : List ℕ) (n : ℕ) → n ≡ min (length bytes) 12 → drop n bytes ≡ drop 12 bytes
entries_behind bytes n is =
    elim (cases_lt (length bytes) 12) [
      | inl lt ↦ drop_all n bytes (omega (arith, is, lt)) ∙ sym (drop_all 12 bytes (omega (arith, lt)))
      | inr le ↦ let all : n ≡ 12 = omega (arith, is, le) in ap (λ (k : ℕ). drop k bytes) all
    ]

-- One entry more.
entry_more : (k m : ℕ) (left : List ℕ) → m ≡ suc k → moments_of m left ≡ moment_of left ∷ moments_of k (drop 12 left)
entry_more k m left e = ap (λ (n : ℕ). moments_of n left) e

pub reads_more : (done all : List KeyMoment) (n i : ℕ) (left next : List ℕ) → i < n → next ≡ drop 12 left → done ++ moments_of (n - i) left ≡ all
    → (done ++ moment_of left ∷ []) ++ moments_of (n - (i + 1)) next ≡ all
reads_more done all n i left next lt is e =
    append_assoc done (moment_of left ∷ []) (moments_of (n - (i + 1)) next)
    ∙ (ap (λ (xs : List ℕ). done ++ moment_of left ∷ moments_of (n - (i + 1)) xs) is
    ∙ (ap (λ (xs : List KeyMoment). done ++ xs) (sym (entry_more (n - (i + 1)) (n - i) left (omega (arith, lt)))) ∙ e))

pub fine_more : (before : KeyMoment) (all : Option BadIndex) (n i : ℕ) (left next : List ℕ) → i < n → next ≡ drop 12 left → fault_at before (moment_of left) ≡ None → all ≡ fault_after before (moments_of (n - i) left)
    → all ≡ fault_after (moment_of left) (moments_of (n - (i + 1)) next)
fine_more before all n i left next lt is fine e =
    e ∙ (ap (fault_after before) (entry_more (n - (i + 1)) (n - i) left (omega (arith, lt)))
    ∙ (ap (λ (f : Option BadIndex). first_of f (fault_after (moment_of left) (moments_of (n - (i + 1)) (drop 12 left)))) fine
    ∙ ap (λ (xs : List ℕ). fault_after (moment_of left) (moments_of (n - (i + 1)) xs)) (sym is)))

pub bad_now : (before : KeyMoment) (all : Option BadIndex) (bad : BadIndex) (n i : ℕ) (left : List ℕ) → i < n → fault_at before (moment_of left) ≡ Some bad → all ≡ fault_after before (moments_of (n - i) left) → all ≡ Some bad
bad_now before all bad n i left lt is e =
    e ∙ (ap (fault_after before) (entry_more (n - (i + 1)) (n - i) left (omega (arith, lt)))
    ∙ ap (λ (f : Option BadIndex). first_of f (fault_after (moment_of left) (moments_of (n - (i + 1)) (drop 12 left)))) is)

-- ---- a whole index, that was cut off

-- Two beginnings of one list are alike as far as both go.
same_front : (xs ys front back : List ℕ) → xs ++ ys ≡ front ++ back → take (length xs) front ≡ take (length front) xs
same_front [] ys [] back e = refl
same_front [] ys (f ∷ front) back e = refl
same_front (x ∷ xs) ys [] back e = refl
same_front (x ∷ xs) ys (f ∷ front) back e =
    let head : f ≡ x = sym (ap (λ (l : List ℕ). get_or l 0 0) e) in
    ap (λ (h : ℕ). h ∷ take (length xs) front) head ∙ ap (λ (t : List ℕ). x ∷ t) (same_front xs ys front back (ap (drop 1) e))

cut_line : (moments : List KeyMoment) (front back : List ℕ) → index_bytes moments ≡ front ++ back → begins_as_line front ≡ true
unfolding index_bytes begins_as_line
cut_line moments front back e = (bytes_eq-Decides (take 12 front) (take (length front) line)).1 (same_front line (entries_bytes moments) front back e)

behind_line : (moments : List KeyMoment) (front back : List ℕ) → index_bytes moments ≡ front ++ back → 12 ≤ length front → entries_bytes moments ≡ drop 12 front ++ back
unfolding index_bytes
behind_line moments front back e le = ap (drop 12) e ∙ drop-append-le 12 front back le

pub cut_moments : (moments : List KeyMoment) (front back : List ℕ) → AreMoments moments → index_bytes moments ≡ front ++ back → moments_in front ≡ take (length (drop 12 front) / 12) moments
unfolding moments_in
cut_moments moments front back h e =
    elim (cases_lt (length front) 12) [
      | inl lt ↦ let none : drop 12 front ≡ [] = drop_all 12 front (omega (arith, lt)) in rw none refl
      | inr le ↦ front_is_read start moments (length (drop 12 front) / 12) (drop 12 front) back h (behind_line moments front back e le) (mul-div-le (length (drop 12 front)) 12)
    ]

pub cut_is_fine : (moments : List KeyMoment) (front back : List ℕ) → AreMoments moments → index_bytes moments ≡ front ++ back → fault_in front ≡ None
unfolding fault_in
cut_is_fine moments front back h e =
    rw (cut_line moments front back e, cut_moments moments front back h e) (front_is_fine start moments (length (drop 12 front) / 12) h)

whole_len : (moments : List KeyMoment) → length (drop 12 (index_bytes moments)) / 12 ≡ length moments
unfolding index_bytes
whole_len moments = ap (λ (n : ℕ). n / 12) (entries_len moments) ∙ mul-div_cancel_left (length moments) (omega arith)

pub whole_is_read : (moments : List KeyMoment) → AreMoments moments → moments_in (index_bytes moments) ≡ moments
whole_is_read moments h =
    cut_moments moments (index_bytes moments) [] h (sym (append-nil (index_bytes moments)))
    ∙ (ap (λ (n : ℕ). take n moments) (whole_len moments) ∙ take_all (length moments) moments (omega arith))

pub whole_is_fine : (moments : List KeyMoment) → AreMoments moments → fault_in (index_bytes moments) ≡ None
whole_is_fine moments h = cut_is_fine moments (index_bytes moments) [] h (sym (append-nil (index_bytes moments)))
