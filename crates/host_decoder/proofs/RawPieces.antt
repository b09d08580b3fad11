-- The pixels of a Raw rectangle, in pieces. A piece may end in the middle of a pixel.
use Rattle.std.proofs.Common.{◌≡◌, ℕ, zero, suc, ◌+◌, ◌-◌, ◌*◌, ◌<◌, ◌≤◌, true, false, List, [], ◌∷◌, ◌++◌, take, drop, map, length, None, is_some, subst, Ok, inl, inr, refl, sym, ap, ◌∙◌, append_assoc, append-nil, length-append, arith}
use Rattle.std.proofs.lemmas.Bool.{eq-eqb, ne_eqb}
use Rattle.std.proofs.lemmas.List.{get_or-map, length-take, length-drop, take_all, take-append-drop}
use Rattle.std.proofs.lemmas.Slice.{take-put_mid, drop-put_mid}
use borrow.Rule.Slice.PartMut.{put_mid}
use Rattle.std.proofs.Math.Nat.{eq-or-lt_of_le}
use mathlib.Core.Path.{fun_ext}
use Rattle.std.specs.Prelude.{◌==◌}
use Rattle.std.specs.Simd.{first_chunks}
use Rattle.std.specs.Int.{w32, from_le_bytes}
use Rattle.pixel_format.specs.PixelFormat.{host_format}
use Rattle.byte_reading.specs.Reading.{Reading, Done, ◌>>=◌, after, taken, times, wants_more, whole_of, fault_of}
use Rattle.byte_reading.proofs.ReadingLaws.{after-append, after-done, bind_assoc, bind_done, done_is, none_left, none_whole, taken-append, wants_no_fault, wants_not_whole}
use Rattle.byte_reading.proofs.InOrder.{then_wants}
use Rattle.raster.specs.declared.rect.Rect.{Rect}
use Rattle.raster.specs.Encoding.{pixel, raw}
use Rattle.raster.specs.Screen.{Canvas}
use Rattle.raster.specs.Update.{Paint, Put}
use Rattle.raster.proofs.Rows.{row_fits}
use Rattle.raster.proofs.FixedLength.{Needs, exactly_pixel, needs_both, needs_first, needs_takes, needs_after, needs_wants}
use Rattle.host_decoder.specs.Updates.{colour_of}
use Rattle.host_decoder.specs.Data.{putting, RawStands, RawTakes, IsDrawnAs, FedAs, ShowsFirst}
use Rattle.host_decoder.specs.DataParts.{RawProgress}
use Rattle.host_decoder.proofs.Copies.{stays_behind}
use Rattle.host_decoder.proofs.Mapping.{told_after, told_taken}

-- The pixels that are still to come, after those of some values.
abbrev pub to_come : ℕ → List ℕ → Reading (List ℕ)
to_come n values = times n (pixel host_format) >>= λ more. Done (values ++ more)

-- Each needs four bytes.
times_need : (n : ℕ) → Needs (4 * n) (times n (pixel host_format))
times_need zero = tt
times_need (suc n) =
    let e : 4 + 4 * n ≡ 4 * suc n = omega arith in
    rw (← e) (needs_both 4 (4 * n) (pixel host_format) (λ first. times n (pixel host_format) >>= λ others. Done (first ∷ others)) (exactly_pixel host_format)
    (λ first. needs_first (4 * n) (times n (pixel host_format)) (λ others. Done (first ∷ others)) (times_need n)))

pub come_need : (n : ℕ) (values : List ℕ) → Needs (4 * n) (to_come n values)
come_need n values = needs_first (4 * n) (times n (pixel host_format)) (λ more. Done (values ++ more)) (times_need n)

-- What four bytes are.
one_more : (a b c d : ℕ) (bs : List ℕ) (n : ℕ) (values : List ℕ) → after (to_come (suc n) values) (a ∷ b ∷ c ∷ d ∷ bs) ≡ after (to_come n (values ++ from_le_bytes w32 (a ∷ b ∷ c ∷ d ∷ []) ∷ [])) bs
one_more a b c d bs n values =
    let v : ℕ = from_le_bytes w32 (a ∷ b ∷ c ∷ d ∷ []) in
    let shape : ((times n (pixel host_format) >>= λ others. Done (v ∷ others)) >>= λ more. Done (values ++ more)) ≡ to_come n (values ++ v ∷ []) =
    bind_assoc (times n (pixel host_format)) (λ others. Done (v ∷ others)) (λ more. Done (values ++ more))
    ∙ ap (λ (f : List ℕ → List ℕ). times n (pixel host_format) >>= λ more. Done (f more)) (fun_ext (λ more. sym (append_assoc values (v ∷ []) more))) in
    ap (λ (r : Reading (List ℕ)). after r bs) shape

pub pixel_more : (bytes : List ℕ) (n : ℕ) (values : List ℕ) → length bytes ≡ 4 → after (to_come (suc n) values) bytes ≡ to_come n (values ++ from_le_bytes w32 bytes ∷ [])
pixel_more [] n values e = absurd (omega arith)
pixel_more (a ∷ []) n values e = absurd (omega arith)
pixel_more (a ∷ b ∷ []) n values e = absurd (omega arith)
pixel_more (a ∷ b ∷ c ∷ []) n values e = absurd (omega arith)
pixel_more (a ∷ b ∷ c ∷ d ∷ []) n values e = one_more a b c d [] n values
pixel_more (a ∷ b ∷ c ∷ d ∷ f ∷ bs) n values e = absurd (omega arith)

abbrev pub values_in : ℕ → List ℕ → List ℕ
values_in k bytes = map (from_le_bytes w32) (first_chunks 4 k bytes)

-- And what the bytes of several pixels are.
pixels_more : (k n : ℕ) (values bytes : List ℕ) → 4 * k ≤ length bytes → k ≤ n → after (to_come n values) (take (4 * k) bytes) ≡ to_come (n - k) (values ++ values_in k bytes)
pixels_more zero n values bytes le in_ =
    let none : n - 0 ≡ n = omega arith in
    rw (none, append-nil values) refl
pixels_more (suc k) zero values bytes le in_ = absurd (omega arith)
pixels_more (suc k) (suc n) values [] le in_ = absurd (omega arith)
pixels_more (suc k) (suc n) values (a ∷ []) le in_ = absurd (omega arith)
pixels_more (suc k) (suc n) values (a ∷ b ∷ []) le in_ = absurd (omega arith)
pixels_more (suc k) (suc n) values (a ∷ b ∷ c ∷ []) le in_ = absurd (omega arith)
pixels_more (suc k) (suc n) values (a ∷ b ∷ c ∷ d ∷ bytes) le in_ =
    let v : ℕ = from_le_bytes w32 (a ∷ b ∷ c ∷ d ∷ []) in
    let size : 4 * suc k ≡ suc (suc (suc (suc (4 * k)))) = omega arith in
    let left : suc n - suc k ≡ n - k = omega arith in
    rw (size, left)
    (one_more a b c d (take (4 * k) bytes) n values
    ∙ (pixels_more k n (values ++ v ∷ []) bytes (omega arith) (omega arith) ∙ ap (to_come (n - k)) (append_assoc values (v ∷ []) (values_in k bytes))))

-- ---- a reader of them

-- How it goes on, with this many pixels to come.
goes_on : (area : Rect) (p : RawProgress) (canvas : Canvas) (reading : Reading Paint) (s : RawStands area p canvas reading) (n : ℕ) → n + p.done ≡ p.count → reading ≡ putting area (after (to_come n s.values) p.begun)
goes_on area p canvas reading s n e =
    let m : p.count - length s.values ≡ n = omega (arith, e, s.done) in
    s.reads ∙ ap (λ k. putting area (after (to_come k s.values) p.begun)) m

-- As many bytes as are missing are taken.
raw_takes : (area : Rect) (p : RawProgress) (canvas : Canvas) (reading : Reading Paint) (s : RawStands area p canvas reading) (n : ℕ) (bytes : List ℕ) → n + p.done ≡ p.count → length p.begun + length bytes ≤ 4 * n → taken reading bytes ≡ length bytes
raw_takes area p canvas reading s n bytes e le =
    let form : Reading (List ℕ) = to_come n s.values in
    ap (λ (r : Reading Paint). taken r bytes) (goes_on area p canvas reading s n e)
    ∙ (told_taken (λ vs. Put area vs) (after form p.begun) bytes
    ∙ needs_takes (4 * n - length p.begun) (after form p.begun) bytes (needs_after (4 * n) (4 * n - length p.begun) form p.begun (come_need n s.values) (omega arith)) (omega arith))

raw_after : (area : Rect) (p : RawProgress) (canvas : Canvas) (reading : Reading Paint) (s : RawStands area p canvas reading) (n : ℕ) (bytes : List ℕ) → n + p.done ≡ p.count → after reading bytes ≡ putting area (after (to_come n s.values) (p.begun ++ bytes))
raw_after area p canvas reading s n bytes e =
    ap (λ (r : Reading Paint). after r bytes) (goes_on area p canvas reading s n e)
    ∙ (told_after (λ vs. Put area vs) (after (to_come n s.values) p.begun) bytes ∙ ap (putting area) (sym (after-append (to_come n s.values) p.begun bytes)))

-- Bytes inside one pixel.
pub takes_some : (area : Rect) (old new : RawProgress) (canvas : Canvas) (reading : Reading Paint) (bytes : List ℕ) → length old.begun + length bytes + 4 * old.done ≤ 4 * old.count
    → new.count ≡ old.count → new.done ≡ old.done → new.begun ≡ old.begun ++ bytes → RawStands area old canvas reading → RawTakes area new canvas reading bytes
takes_some area old new canvas reading bytes le count done begun s =
    let n : ℕ = old.count - old.done in
    let e : n + old.done ≡ old.count = omega (arith, le) in
    let m : new.count - length s.values ≡ n = omega (arith, e, count, s.done) in
    record {
      stands =
          record {
            values = s.values;
            done = done ∙ s.done;
            count = count ∙ s.count;
            shows = s.shows;
            reads = raw_after area old canvas reading s n bytes e ∙ (ap (λ b. putting area (after (to_come n s.values) b)) (sym begun) ∙ ap (λ k. putting area (after (to_come k s.values) new.begun)) (sym m));
          };
      all = raw_takes area old canvas reading s n bytes e (omega (arith, le));
    }

-- No byte at all.
pub takes_nothing : (area : Rect) (p : RawProgress) (canvas : Canvas) (reading : Reading Paint) (bytes : List ℕ) → length bytes ≡ 0 → RawStands area p canvas reading → RawTakes area p canvas reading bytes
takes_nothing area p canvas reading bytes none s =
    let same = none_left reading bytes none in
    record { stands = subst (λ (r : Reading Paint). RawStands area p canvas r) (sym same.0) s; all = same.1 ∙ sym none }

-- Bytes up to the end of one pixel.
pub takes_pixel : (area : Rect) (old new : RawProgress) (before now : Canvas) (reading : Reading Paint) (bytes joined : List ℕ) → length old.begun + length bytes + 4 * old.done ≤ 4 * old.count → joined ≡ old.begun ++ bytes → length joined ≡ 4
    → new.count ≡ old.count → new.done ≡ old.done + 1 → new.begun ≡ []
    → ((values : List ℕ) → length values ≡ old.done → ShowsFirst area before values → ShowsFirst area now (values ++ from_le_bytes w32 joined ∷ [])) → RawStands area old before reading → RawTakes area new now reading bytes
takes_pixel area old new before now reading bytes joined le is four count done begun shows s =
    let v : ℕ = from_le_bytes w32 joined in
    let n : ℕ = old.count - old.done - 1 in
    let len : length joined ≡ length old.begun + length bytes = ap length is ∙ length-append old.begun bytes in
    let e : suc n + old.done ≡ old.count = omega (arith, le, len, four) in
    let longer : length (s.values ++ v ∷ []) ≡ length s.values + 1 = length-append s.values (v ∷ []) in
    let m : new.count - length (s.values ++ v ∷ []) ≡ n = omega (arith, e, count, s.done, longer) in
    let read : after (to_come (suc n) s.values) (old.begun ++ bytes) ≡ to_come n (s.values ++ v ∷ []) = ap (after (to_come (suc n) s.values)) (sym is) ∙ pixel_more joined n s.values four in
    record {
      stands =
          record {
            values = s.values ++ v ∷ [];
            done = done ∙ (ap (λ k. k + 1) s.done ∙ sym longer);
            count = count ∙ s.count;
            shows = shows s.values (sym s.done) s.shows;
            reads = raw_after area old before reading s (suc n) bytes e ∙ (ap (putting area) read ∙ (ap (λ k. putting area (to_come k (s.values ++ v ∷ []))) (sym m) ∙ ap (λ b. putting area (after (to_come (new.count - length (s.values ++ v ∷ [])) (s.values ++ v ∷ [])) b)) (sym begun)));
          };
      all = raw_takes area old before reading s (suc n) bytes e (omega (arith, le, e));
    }

chunk_count : (k : ℕ) (bytes : List ℕ) → length (values_in k bytes) ≡ k
chunk_count zero bytes = refl
chunk_count (suc k) bytes = ap suc (chunk_count k (drop 4 bytes))

pub chunks_len : (k : ℕ) (bytes : List ℕ) → length (first_chunks 4 k bytes) ≡ k
chunks_len zero bytes = refl
chunks_len (suc k) bytes = ap suc (chunks_len k (drop 4 bytes))

-- Whole pixels, where none is begun.
pub takes_pixels : (area : Rect) (old new : RawProgress) (before now : Canvas) (reading : Reading Paint) (k : ℕ) (bytes : List ℕ) → 4 * k ≤ length bytes → k + old.done ≤ old.count → old.begun ≡ []
    → new.count ≡ old.count → new.done ≡ old.done + k → new.begun ≡ []
    → ((values : List ℕ) → length values ≡ old.done → ShowsFirst area before values → ShowsFirst area now (values ++ values_in k bytes)) → RawStands area old before reading → RawTakes area new now reading (take (4 * k) bytes)
takes_pixels area old new before now reading k bytes some le none count done begun shows s =
    let vs : List ℕ = values_in k bytes in
    let front : List ℕ = take (4 * k) bytes in
    let n : ℕ = old.count - old.done in
    let e : n + old.done ≡ old.count = omega (arith, le) in
    let size : length vs ≡ k = chunk_count k bytes in
    let longer : length (s.values ++ vs) ≡ length s.values + k = length-append s.values vs ∙ ap (λ j. length s.values + j) size in
    let m : new.count - length (s.values ++ vs) ≡ n - k = omega (arith, e, count, s.done, longer) in
    let read : after (to_come n s.values) (old.begun ++ front) ≡ to_come (n - k) (s.values ++ vs) = ap (λ b. after (to_come n s.values) (b ++ front)) none ∙ pixels_more k n s.values bytes some (omega (arith, le, e)) in
    record {
      stands =
          record {
            values = s.values ++ vs;
            done = done ∙ (ap (λ j. j + k) s.done ∙ sym longer);
            count = count ∙ s.count;
            shows = shows s.values (sym s.done) s.shows;
            reads = raw_after area old before reading s n front e ∙ (ap (putting area) read ∙ (ap (λ j. putting area (to_come j (s.values ++ vs))) (sym m) ∙ ap (λ b. putting area (after (to_come (new.count - length (s.values ++ vs)) (s.values ++ vs)) b)) (sym begun)));
          };
      all = raw_takes area old before reading s n front e (omega (arith, ap length none, length-take (4 * k) bytes, some, le, e));
    }

-- ---- at the start and at the end

pub stands_new : (area : Rect) (p : RawProgress) (canvas : Canvas) → p.count ≡ area.w * area.h → p.done ≡ 0 → p.begun ≡ [] → RawStands area p canvas (putting area (raw host_format area.w area.h))
stands_new area p canvas count done begun =
    let all : p.count - 0 ≡ area.w * area.h = omega (arith, count) in
    let form : Reading (List ℕ) = raw host_format area.w area.h in
    record {
      values = [];
      done = done;
      count = count;
      shows = λ x y lx ly lt. absurd (omega (arith, lt));
      reads =
          ap (putting area)
          (sym (bind_done form) ∙ ap (λ n. times n (pixel host_format) >>= λ more. Done more) (sym all) ∙ ap (λ b. after (times (p.count - 0) (pixel host_format) >>= λ more. Done more) b) (sym begun));
    }

is_count : (area : Rect) (p : RawProgress) (canvas : Canvas) (reading : Reading Paint) (s : RawStands area p canvas reading) → p.done ≡ p.count → reading ≡ Done (Put area (s.values ++ []))
is_count area p canvas reading s e =
    goes_on area p canvas reading s 0 (omega (arith, e)) ∙ ap (putting area) (after-done (s.values ++ []) p.begun)

pub wants_pixels : (area : Rect) (p : RawProgress) (canvas : Canvas) (reading : Reading Paint) → length p.begun < 4 → p.done < p.count → RawStands area p canvas reading → wants_more reading ≡ true
wants_pixels area p canvas reading short lt s =
    let n : ℕ = p.count - p.done in
    let form : Reading (List ℕ) = to_come n s.values in
    let inner : wants_more (after form p.begun) ≡ true =
    needs_wants (4 * n - length p.begun) (after form p.begun) (needs_after (4 * n) (4 * n - length p.begun) form p.begun (come_need n s.values) (omega arith)) (omega arith) in
    ap (λ (r : Reading Paint). wants_more r) (goes_on area p canvas reading s n (omega (arith, lt))) ∙ then_wants (after form p.begun) (λ vs. Done (Put area vs)) [] inner

pub no_fault : (area : Rect) (p : RawProgress) (canvas : Canvas) (reading : Reading Paint) → length p.begun < 4 → p.done ≤ p.count → RawStands area p canvas reading → fault_of reading ≡ None
no_fault area p canvas reading short le s =
    elim (eq-or-lt_of_le le) [
      | inl e ↦ ap (λ (r : Reading Paint). fault_of r) (is_count area p canvas reading s e)
      | inr lt ↦ wants_no_fault reading (wants_pixels area p canvas reading short lt s)
    ]

pub closes : (area : Rect) (p : RawProgress) (canvas : Canvas) (reading : Reading Paint) → p.done ≡ p.count → RawStands area p canvas reading → wants_more reading ≡ false
closes area p canvas reading e s = ap (λ (r : Reading Paint). wants_more r) (is_count area p canvas reading s e)

pub whole_at_count : (area : Rect) (p : RawProgress) (canvas : Canvas) (reading : Reading Paint) → length p.begun < 4 → p.done ≤ p.count → RawStands area p canvas reading → (p.done == p.count) ≡ is_some (whole_of reading)
whole_at_count area p canvas reading short le s =
    elim (eq-or-lt_of_le le) [
      | inl e ↦ eq-eqb p.done p.count e ∙ sym (ap (λ (r : Reading Paint). is_some (whole_of r)) (is_count area p canvas reading s e))
      | inr lt ↦ ne_eqb p.done p.count (λ e. absurd (omega (arith, lt, e))) ∙ sym (wants_not_whole reading (wants_pixels area p canvas reading short lt s))
    ]

-- All values are shown, in colours.
pub drawn_at_count : (area : Rect) (p : RawProgress) (canvas : Canvas) (painted : Paint) → length p.begun < 4 → p.done ≤ p.count → RawStands area p canvas (Done painted) → IsDrawnAs area canvas painted
drawn_at_count area p canvas painted short le s =
    elim (eq-or-lt_of_le le) [
      | inl e ↦ (let same : painted ≡ Put area (s.values ++ []) = done_is painted (Put area (s.values ++ [])) (is_count area p canvas (Done painted) s e) in
          record {
            values = s.values;
            is = same ∙ ap (λ vs. Put area vs) (append-nil s.values);
            shows = λ x y lx ly.
                let there : y * area.w + x < length s.values = omega (arith, row_fits area.w area.h y x 1 ly (omega arith), s.count, e, s.done) in
                s.shows x y lx ly there ∙ sym (get_or-map colour_of s.values (y * area.w + x) 0 0 there);
          })
      | inr lt ↦ (let none = none_whole (Done painted) (wants_pixels area p canvas (Done painted) short lt s) in absurd cc)
    ]

-- A slice that was written to its end.
pub written_to_end : (a k : ℕ) (xs ys : List ℕ) → a + k ≡ 4 → length xs ≡ 4 → length ys ≡ k → put_mid a k xs ys ≡ take a xs ++ ys
written_to_end a k xs ys e four some =
    let all : List ℕ = put_mid a k xs ys in
    let front : take 4 all ≡ take a xs ++ ys = take-put_mid a k xs ys 4 (omega (arith, e, some)) (omega (arith, e, four)) in
    let back : drop 4 all ≡ drop 4 xs = drop-put_mid a k xs ys 4 (omega (arith, e)) (omega (arith, e, four)) some in
    sym (take_all 4 all (omega (arith, length-drop 4 all, ap length back, length-drop 4 xs, four))) ∙ front

-- ---- one piece after another

pub takes_then : (area : Rect) (mid new : RawProgress) (before now : Canvas) (reading : Reading Paint) (xs ys : List ℕ) → RawTakes area mid before reading xs → ((r : Reading Paint) → RawStands area mid before r → RawTakes area new now r ys) → RawTakes area new now reading (xs ++ ys)
takes_then area mid new before now reading xs ys one more =
    let two = more (after reading xs) one.stands in
    record {
      stands = subst (λ (r : Reading Paint). RawStands area new now r) (sym (after-append reading xs ys)) two.stands;
      all = taken-append reading xs ys one.all ∙ (ap (λ n. length xs + n) two.all ∙ sym (length-append xs ys));
    }

-- It took the front of a piece, up to the last pixel.
pub takes_front : (area : Rect) (new : RawProgress) (canvas : Canvas) (reading : Reading Paint) (piece : List ℕ) (used left : ℕ) → used ≤ length piece → (used < length piece → left ≡ 0) → length new.begun + left + 4 * new.done ≡ 4 * new.count → length new.begun < 4
    → RawTakes area new canvas reading (take used piece) → RawStands area new canvas (after reading piece) × FedAs reading piece (Ok used)
takes_front area new canvas reading piece used left le whole count short t =
    let front : List ℕ = take used piece in
    let behind : List ℕ = drop used piece in
    let split : front ++ behind ≡ piece = take-append-drop used piece in
    let closed : left ≡ 0 → wants_more (after reading front) ≡ false = λ z. closes area new canvas (after reading front) (omega (arith, z, count, short)) t.stands in
    let stays = stays_behind (after reading front) behind left closed (λ some. whole (omega (arith, some, length-drop used piece))) in
    let goes : after reading piece ≡ after reading front = ap (after reading) (sym split) ∙ (after-append reading front behind ∙ stays.0) in
    let all : taken reading piece ≡ length front + taken (after reading front) behind = ap (taken reading) (sym split) ∙ taken-append reading front behind t.all in (
      subst (λ (r : Reading Paint). RawStands area new canvas r) (sym goes) t.stands,
      (omega (arith, all, stays.1, length-take used piece, le), ap (λ (r : Reading Paint). fault_of r) goes ∙ no_fault area new canvas (after reading front) short (omega (arith, count)) t.stands),
    )
