-- Packed rows in front of other bytes can be told from these, and have one list of indices alone: an index lies in bits
-- of its own, and each row begins with a byte.
use Rattle.std.proofs.Common.{◌≡◌, ℕ, zero, suc, ◌+◌, ◌-◌, ◌*◌, ◌/◌, ◌%◌, ◌^◌, ◌<◌, ◌≤◌, ◌⊎◌, inl, inr, List, [], ◌∷◌, ◌++◌, ◌∙◌, length, drop, refl, sym, ap, subst, arith, append_assoc, length-drop}
use Rattle.std.specs.Prelude.{slice_index, EachIndex}
use Rattle.std.specs.List.{flat_map, range_with_len, AllByRecursion}
use Rattle.std.proofs.lemmas.Bool.{cases_lt}
use Rattle.std.proofs.Math.Nat.{div-lt_iff_lt-mul, div-add-mod', mul_comm}
use Rattle.std.proofs.lemmas.List.{length-take, get_or_past, get_or-take, get_or-drop}
use Rattle.std.proofs.lemmas.List.FromFn.{get_or-map-range_with_len, length-map-range_with_len}
use Rattle.std.proofs.lemmas.Grind.{same_number_lists}
use Rattle.zrle_codec.specs.Tiles.{packed_byte, packed_row, packed_rows, row_of}
use Rattle.zrle_codec.proofs.Apart.{same_front}
use Rattle.zrle_codec.proofs.Paletted.{row_inside, part_known}

-- ---- one byte

-- digits of a byte, the first one highest
eight_apart : (a b c d e f g h i j k l m n o p : ℕ) → a < 2 → b < 2 → c < 2 → d < 2 → e < 2 → f < 2 → g < 2 → h < 2 → i < 2 → j < 2 → k < 2 → l < 2 → m < 2 → n < 2 → o < 2 → p < 2
    → a * 128 + b * 64 + c * 32 + d * 16 + e * 8 + f * 4 + g * 2 + h ≡ i * 128 + j * 64 + k * 32 + l * 16 + m * 8 + n * 4 + o * 2 + p
    → (a ≡ i) × (b ≡ j) × (c ≡ k) × (d ≡ l) × (e ≡ m) × (f ≡ n) × (g ≡ o) × (h ≡ p)
eight_apart a b c d e f g h i j k l m n o p la lb lc ld le lf lg lh li lj lk ll lm ln lo lp same =
    let one : a ≡ i = omega arith in
    let two : b ≡ j = omega arith in
    let three : c ≡ k = omega arith in
    let four : d ≡ l = omega arith in
    let five : e ≡ m = omega arith in
    let six : f ≡ n = omega arith in
    let seven : g ≡ o = omega arith in
    (one, two, three, four, five, six, seven, omega arith)

four_apart : (a b c d e f g h : ℕ) → a < 4 → b < 4 → c < 4 → d < 4 → e < 4 → f < 4 → g < 4 → h < 4
    → a * 64 + b * 16 + c * 4 + d ≡ e * 64 + f * 16 + g * 4 + h → (a ≡ e) × (b ≡ f) × (c ≡ g) × (d ≡ h)
four_apart a b c d e f g h la lb lc ld le lf lg lh same = (omega arith, omega arith, omega arith, omega arith)

two_apart : (a b c d : ℕ) → a < 16 → b < 16 → c < 16 → d < 16 → a * 16 + b ≡ c * 16 + d → (a ≡ c) × (b ≡ d)
two_apart a b c d la lb lc ld same = (omega arith, omega arith)

each_of_two : (P : ℕ → Type 0) → P 0 → P 1 → (k : ℕ) → k < 2 → P k
each_of_two P p q zero lt = p
each_of_two P p q (suc zero) lt = q
each_of_two P p q (suc (suc k)) lt = absurd (omega arith)

each_of_four : (P : ℕ → Type 0) → P 0 → P 1 → P 2 → P 3 → (k : ℕ) → k < 4 → P k
each_of_four P p q r s zero lt = p
each_of_four P p q r s (suc zero) lt = q
each_of_four P p q r s (suc (suc zero)) lt = r
each_of_four P p q r s (suc (suc (suc zero))) lt = s
each_of_four P p q r s (suc (suc (suc (suc k)))) lt = absurd (omega arith)

each_of_eight : (P : ℕ → Type 0) → P 0 → P 1 → P 2 → P 3 → P 4 → P 5 → P 6 → P 7 → (k : ℕ) → k < 8 → P k
each_of_eight P a b c d e f g h k lt =
    let low : k < 4 → P k = λ l. each_of_four P a b c d k l in
    let high : 4 ≤ k → P k = λ l. subst P (omega arith) (each_of_four (λ n. P (4 + n)) e f g h (k - 4) (omega arith)) in
    elim (cases_lt k 4) as (λ _. P k) [ inl l ↦ low l | inr l ↦ high (omega arith) ]

-- at each place of a row there is an index, or 0 behind its end
place_below : (xs : List ℕ) (n : ℕ) → 0 < n → EachIndex xs (λ k. slice_index xs k < n) → (k : ℕ) → slice_index xs k < n
place_below xs n some each k = elim (cases_lt k (length xs)) as (λ _. slice_index xs k < n) [
  | inl inside ↦ each k inside
  | inr past ↦ omega (arith, get_or_past xs k 0 (omega arith), some)
]

first_place : (n : ℕ) (xs ys : List ℕ) → slice_index xs n ≡ slice_index ys n → slice_index xs (n + 0) ≡ slice_index ys (n + 0)
first_place n xs ys same = subst (λ k. slice_index xs k ≡ slice_index ys k) (omega arith) same

-- the sizes of indices
abbrev pub IsSize : ℕ → Type 0
IsSize bits = (bits ≡ 1) ⊎ ((bits ≡ 2) ⊎ (bits ≡ 4))

-- in a byte as many indices are the same
byte_apart_1 : (xs ys : List ℕ) (j : ℕ) → ((k : ℕ) → slice_index xs k < 2) → ((k : ℕ) → slice_index ys k < 2) → packed_byte 1 xs j ≡ packed_byte 1 ys j → (k : ℕ) → k < 8 → slice_index xs (8 * j + k) ≡ slice_index ys (8 * j + k)
unfolding packed_byte
byte_apart_1 xs ys j small fits same =
    let x : ℕ → ℕ = λ k. slice_index xs (8 * j + k) in
    let y : ℕ → ℕ = λ k. slice_index ys (8 * j + k) in
    let all = eight_apart (slice_index xs (8 * j)) (x 1) (x 2) (x 3) (x 4) (x 5) (x 6) (x 7) (slice_index ys (8 * j)) (y 1) (y 2) (y 3) (y 4) (y 5) (y 6) (y 7)
    (small (8 * j)) (small (8 * j + 1)) (small (8 * j + 2)) (small (8 * j + 3)) (small (8 * j + 4)) (small (8 * j + 5)) (small (8 * j + 6)) (small (8 * j + 7))
    (fits (8 * j)) (fits (8 * j + 1)) (fits (8 * j + 2)) (fits (8 * j + 3)) (fits (8 * j + 4)) (fits (8 * j + 5)) (fits (8 * j + 6)) (fits (8 * j + 7)) same in
    each_of_eight (λ k. slice_index xs (8 * j + k) ≡ slice_index ys (8 * j + k)) (first_place (8 * j) xs ys all.0) all.1 all.2 all.3 all.4 all.5 all.6 all.7

byte_apart_2 : (xs ys : List ℕ) (j : ℕ) → ((k : ℕ) → slice_index xs k < 4) → ((k : ℕ) → slice_index ys k < 4) → packed_byte 2 xs j ≡ packed_byte 2 ys j → (k : ℕ) → k < 4 → slice_index xs (4 * j + k) ≡ slice_index ys (4 * j + k)
unfolding packed_byte
byte_apart_2 xs ys j small fits same =
    let x : ℕ → ℕ = λ k. slice_index xs (4 * j + k) in
    let y : ℕ → ℕ = λ k. slice_index ys (4 * j + k) in
    let all = four_apart (slice_index xs (4 * j)) (x 1) (x 2) (x 3) (slice_index ys (4 * j)) (y 1) (y 2) (y 3)
    (small (4 * j)) (small (4 * j + 1)) (small (4 * j + 2)) (small (4 * j + 3)) (fits (4 * j)) (fits (4 * j + 1)) (fits (4 * j + 2)) (fits (4 * j + 3)) same in
    each_of_four (λ k. slice_index xs (4 * j + k) ≡ slice_index ys (4 * j + k)) (first_place (4 * j) xs ys all.0) all.1 all.2 all.3

byte_apart_4 : (xs ys : List ℕ) (j : ℕ) → ((k : ℕ) → slice_index xs k < 16) → ((k : ℕ) → slice_index ys k < 16) → packed_byte 4 xs j ≡ packed_byte 4 ys j → (k : ℕ) → k < 2 → slice_index xs (2 * j + k) ≡ slice_index ys (2 * j + k)
unfolding packed_byte
byte_apart_4 xs ys j small fits same =
    let x : ℕ → ℕ = λ k. slice_index xs (2 * j + k) in
    let y : ℕ → ℕ = λ k. slice_index ys (2 * j + k) in
    let all = two_apart (slice_index xs (2 * j)) (x 1) (slice_index ys (2 * j)) (y 1) (small (2 * j)) (small (2 * j + 1)) (fits (2 * j)) (fits (2 * j + 1)) same in
    each_of_two (λ k. slice_index xs (2 * j + k) ≡ slice_index ys (2 * j + k)) (first_place (2 * j) xs ys all.0) all.1

-- ---- a row

bytes_same : (bits : ℕ) (xs ys : List ℕ) → length xs ≡ length ys → packed_row bits xs ≡ packed_row bits ys → (j : ℕ) → j < (length xs * bits + 7) / 8 → packed_byte bits xs j ≡ packed_byte bits ys j
unfolding packed_row
bytes_same bits xs ys size same j lt =
    let n : ℕ = (length xs * bits + 7) / 8 in
    let m : ℕ = (length ys * bits + 7) / 8 in
    let as_many : n ≡ m = ap (λ k. (k * bits + 7) / 8) size in
    sym (get_or-map-range_with_len (packed_byte bits xs) 0 n j j 0 lt (omega arith))
    ∙ (ap (λ t. slice_index t j) same ∙ get_or-map-range_with_len (packed_byte bits ys) 0 m j j 0 (omega (arith, as_many, lt)) (omega arith))

row_1 : (xs ys : List ℕ) → length xs ≡ length ys → ((k : ℕ) → slice_index xs k < 2) → ((k : ℕ) → slice_index ys k < 2) → packed_row 1 xs ≡ packed_row 1 ys → (k : ℕ) → k < length xs → slice_index xs k ≡ slice_index ys k
row_1 xs ys size small fits same k lt =
    let is : 8 * (k / 8) + k % 8 ≡ k = omega arith in
    subst (λ n. slice_index xs n ≡ slice_index ys n) is (byte_apart_1 xs ys (k / 8) small fits (bytes_same 1 xs ys size same (k / 8) (omega arith)) (k % 8) (omega arith))

row_2 : (xs ys : List ℕ) → length xs ≡ length ys → ((k : ℕ) → slice_index xs k < 4) → ((k : ℕ) → slice_index ys k < 4) → packed_row 2 xs ≡ packed_row 2 ys → (k : ℕ) → k < length xs → slice_index xs k ≡ slice_index ys k
row_2 xs ys size small fits same k lt =
    let is : 4 * (k / 4) + k % 4 ≡ k = omega arith in
    subst (λ n. slice_index xs n ≡ slice_index ys n) is (byte_apart_2 xs ys (k / 4) small fits (bytes_same 2 xs ys size same (k / 4) (omega arith)) (k % 4) (omega arith))

row_4 : (xs ys : List ℕ) → length xs ≡ length ys → ((k : ℕ) → slice_index xs k < 16) → ((k : ℕ) → slice_index ys k < 16) → packed_row 4 xs ≡ packed_row 4 ys → (k : ℕ) → k < length xs → slice_index xs k ≡ slice_index ys k
row_4 xs ys size small fits same k lt =
    let is : 2 * (k / 2) + k % 2 ≡ k = omega arith in
    subst (λ n. slice_index xs n ≡ slice_index ys n) is (byte_apart_4 xs ys (k / 2) small fits (bytes_same 4 xs ys size same (k / 2) (omega arith)) (k % 2) (omega arith))

abbrev RowSame : ℕ → List ℕ → List ℕ → Type 0
RowSame bits xs ys =
    length xs ≡ length ys → ((k : ℕ) → slice_index xs k < 2 ^ bits) → ((k : ℕ) → slice_index ys k < 2 ^ bits) → packed_row bits xs ≡ packed_row bits ys → (k : ℕ) → k < length xs → slice_index xs k ≡ slice_index ys k

row_same : (bits : ℕ) (xs ys : List ℕ) → IsSize bits → RowSame bits xs ys
row_same bits xs ys (inl e) = subst (λ n. RowSame n xs ys) (sym e) (row_1 xs ys)
row_same bits xs ys (inr (inl e)) = subst (λ n. RowSame n xs ys) (sym e) (row_2 xs ys)
row_same bits xs ys (inr (inr e)) = subst (λ n. RowSame n xs ys) (sym e) (row_4 xs ys)

pub packed-length : (bits : ℕ) (xs : List ℕ) → length (packed_row bits xs) ≡ (length xs * bits + 7) / 8
unfolding packed_row
packed-length bits xs = length-map-range_with_len (packed_byte bits xs) 0 ((length xs * bits + 7) / 8)

-- ---- rows

-- pieces, each as long as the other one in its place, before other bytes
record SamePieces (f g : ℕ → List ℕ) (ys r q : List ℕ) : Type 0 where
  bytes : flat_map f ys ≡ flat_map g ys
  each : AllByRecursion (λ y. f y ≡ g y) ys
  rest : r ≡ q

pieces_apart : (f g : ℕ → List ℕ) (ys r q : List ℕ) → ((y : ℕ) → length (f y) ≡ length (g y)) → flat_map f ys ++ r ≡ flat_map g ys ++ q → SamePieces f g ys r q
pieces_apart f g [] r q size same = record { bytes = refl; each = tt; rest = same }
pieces_apart f g (y ∷ ys) r q size same =
    let first = same_front (f y) (g y) (flat_map f ys ++ r) (flat_map g ys ++ q) (size y) (sym (append_assoc (f y) (flat_map f ys) r) ∙ (same ∙ append_assoc (g y) (flat_map g ys) q)) in
    let others = pieces_apart f g ys r q size first.1 in
    record {
      bytes = ap (λ t. t ++ flat_map f ys) first.0 ∙ ap (λ t. g y ++ t) others.bytes;
      each = (first.0, others.each);
      rest = others.rest;
    }

in_range : (P : ℕ → Type 0) (a n y : ℕ) → AllByRecursion P (range_with_len a n) → a ≤ y → y < a + n → P y
in_range P a zero y all from to = absurd (omega arith)
in_range P a (suc n) y all from to = elim (cases_lt a y) as (λ _. P y) [
  | inl later ↦ in_range P (a + 1) n y all.1 (omega arith) (omega arith)
  | inr here ↦ subst P (omega arith) all.0
]

row-length : (w y : ℕ) (xs ys : List ℕ) → length xs ≡ length ys → length (row_of w xs y) ≡ length (row_of w ys y)
row-length w y xs ys size =
    omega (arith, length-take w (drop (y * w) xs), length-take w (drop (y * w) ys), length-drop (y * w) xs, length-drop (y * w) ys, size)

pub record SameRows (bits w h : ℕ) (xs ys r q : List ℕ) : Type 0 where
  pub bytes : packed_rows bits w h xs ≡ packed_rows bits w h ys
  pub indices : xs ≡ ys
  pub rest : r ≡ q

-- rows of indices before other bytes
pub rows_apart : (bits w h : ℕ) (xs ys r q : List ℕ) → IsSize bits → length xs ≡ w * h → length ys ≡ w * h
    → EachIndex xs (λ k. slice_index xs k < 2 ^ bits) → EachIndex ys (λ k. slice_index ys k < 2 ^ bits) → 0 < 2 ^ bits
    → packed_rows bits w h xs ++ r ≡ packed_rows bits w h ys ++ q → SameRows bits w h xs ys r q
unfolding packed_rows
rows_apart bits w h xs ys r q which size as_many each known some same =
    let alike : length xs ≡ length ys = size ∙ sym as_many in
    let f : ℕ → List ℕ = λ y. packed_row bits (row_of w xs y) in
    let g : ℕ → List ℕ = λ y. packed_row bits (row_of w ys y) in
    let pieces = pieces_apart f g (range_with_len 0 h) r q
    (λ y. packed-length bits (row_of w xs y) ∙ (ap (λ n. (n * bits + 7) / 8) (row-length w y xs ys alike) ∙ sym (packed-length bits (row_of w ys y)))) same in
    record {
      bytes = pieces.bytes;
      indices = same_number_lists xs ys alike (λ k lt.
          let wide : 0 < w = wide_by w h k (omega (arith, size)) in
          let y : ℕ = k / w in
          let x : ℕ = k % w in
          let there : y < h = (div-lt_iff_lt-mul wide).1 (omega (arith, size, lt, mul_comm w h)) in
          let inside : y * w + w ≤ w * h = row_inside y h w there in
          let column : x < w = omega (arith, wide) in
          let row : f y ≡ g y = in_range (λ n. f n ≡ g n) 0 h y pieces.each (omega arith) (omega arith) in
          let row_known : (zs : List ℕ) → length zs ≡ w * h → EachIndex zs (λ n. slice_index zs n < 2 ^ bits) → (n : ℕ) → slice_index (row_of w zs y) n < 2 ^ bits = λ zs e all n.
          place_below (row_of w zs y) (2 ^ bits) some (part_known zs (y * w) w (2 ^ bits) (omega (arith, e)) all) n in
          let at : (zs : List ℕ) → slice_index (row_of w zs y) x ≡ slice_index zs k = λ zs.
          get_or-take w (drop (y * w) zs) x 0 column ∙ (get_or-drop (y * w) zs x 0 ∙ ap (λ n. slice_index zs n) (omega (arith, div-add-mod' k w))) in
          let long : x < length (row_of w xs y) = omega (arith, length-take w (drop (y * w) xs), length-drop (y * w) xs, size, inside, column) in
          sym (at xs) ∙ (row_same bits (row_of w xs y) (row_of w ys y) which (row-length w y xs ys alike) (row_known xs size each) (row_known ys as_many known) row x long ∙ at ys));
      rest = pieces.rest;
    }
  where
    wide_by : (a b k : ℕ) → k < a * b → 0 < a
    wide_by zero b k lt = absurd (omega arith)
    wide_by (suc a) b k lt = omega arith
