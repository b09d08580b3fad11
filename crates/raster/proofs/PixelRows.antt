-- The pixels of a rectangle, one row after another. Rows are tinted and compared one by one.
use Rattle.std.proofs.Common.{◌≡◌, ℕ, zero, suc, ◌+◌, ◌*◌, ◌/◌, ◌%◌, ◌<◌, ◌≤◌, List, [], ◌∷◌, ◌++◌, length, take, refl, sym, ap, ◌∙◌, arith, zero-add}
use Rattle.std.specs.Prelude.{map}
use Rattle.std.specs.List.{range_with_len}
use Rattle.std.proofs.lemmas.List.{map-append}
use Rattle.std.proofs.lemmas.Grind.{flat_map-append}
use Rattle.std.proofs.lemmas.Slice.{take-put_mid}
use borrow.Rule.Slice.PartMut.{put_mid}
use Rattle.std.proofs.lemmas.Nat.{div-mul-add, mod-mul-add}
use Rattle.std.proofs.Math.Nat.{mul-le-mul_right, mul_comm}
use Rattle.pixel_format.specs.PixelFormat.{PixelFormat, tint, pixel_bytes, row_bytes}
use Rattle.raster.specs.declared.rect.Rect.{Rect}
use Rattle.raster.specs.Screen.{Canvas, IsWithin, part_of, values_of, value_at}
use Rattle.raster.proofs.Values.{map_range_is}
use Rattle.raster.proofs.Rows.{part_row, part_at, part_len}

range_split : (n m a : ℕ) → range_with_len a (n + m) ≡ range_with_len a n ++ range_with_len (a + n) m
range_split zero m a = let e : zero + m ≡ m = omega arith in let f : a + zero ≡ a = omega arith in rw (e, f) refl
range_split (suc n) m a =
    let e : suc n + m ≡ suc (n + m) = omega arith in
    let f : a + 1 + n ≡ a + suc n = omega arith in
    ap (range_with_len a) e ∙ (ap (λ t. a ∷ t) (range_split n m (a + 1)) ∙ ap (λ k. a ∷ (range_with_len (a + 1) n ++ range_with_len k m)) f)

map_shift : (f g : ℕ → ℕ) (n a b : ℕ) → ((i : ℕ) → i < n → f (a + i) ≡ g (b + i)) → map f (range_with_len a n) ≡ map g (range_with_len b n)
map_shift f g zero a b e = refl
map_shift f g (suc n) a b e =
    let az : a + 0 ≡ a = omega arith in
    let bz : b + 0 ≡ b = omega arith in
    let here : f a ≡ g b = ap f (sym az) ∙ (e 0 (omega arith) ∙ ap g bz) in
    let others : map f (range_with_len (a + 1) n) ≡ map g (range_with_len (b + 1) n) =
    map_shift f g n (a + 1) (b + 1)
    (λ i lt. let ai : a + 1 + i ≡ a + suc i = omega arith in let bi : b + suc i ≡ b + 1 + i = omega arith in ap f ai ∙ (e (suc i) (omega arith) ∙ ap g bi)) in
    cc

pub map_same : (f g : ℕ → ℕ) (n : ℕ) → ((i : ℕ) → i < n → f i ≡ g i) → map f (range_with_len 0 n) ≡ map g (range_with_len 0 n)
map_same f g n e = map_shift f g n 0 0 (λ i lt. let z : 0 + i ≡ i = zero-add i in ap f z ∙ (e i lt ∙ sym (ap g z)))

-- Row m of a canvas.
abbrev pub row_at : ℕ → Canvas → ℕ → List ℕ
row_at w canvas m = map (λ k. canvas k m) (range_with_len 0 w)

values_more_by : (w m : ℕ) (canvas : Canvas) → 0 < w → values_of w (m + 1) canvas ≡ values_of w m canvas ++ row_at w canvas m
values_more_by w m canvas lw =
    let f : ℕ → ℕ = λ k. canvas (k % w) (k / w) in
    let size : w * (m + 1) ≡ w * m + w = omega arith in
    ap (λ n. map f (range_with_len 0 n)) size
    ∙ (ap (map f) (range_split (w * m) w 0)
    ∙ (map-append f (range_with_len 0 (w * m)) (range_with_len (0 + w * m) w)
    ∙ ap (λ t. map f (range_with_len 0 (w * m)) ++ t)
    (map_shift f (λ k. canvas k m) w (0 + w * m) 0
    (λ i lt.
    let at : 0 + w * m + i ≡ m * w + i = omega arith in
    ap f at ∙ (ap (λ k. canvas k ((m * w + i) / w)) (mod-mul-add m w i lt) ∙ (ap (canvas i) (div-mul-add m w i lt) ∙ ap (λ k. canvas k m) (sym (zero-add i))))))))

-- One row more.
pub values_more : (w m : ℕ) (canvas : Canvas) → values_of w (m + 1) canvas ≡ values_of w m canvas ++ row_at w canvas m
values_more zero m canvas =
    let f : ℕ → ℕ = λ k. canvas (k % 0) (k / 0) in
    let none : 0 * m ≡ 0 = omega arith in
    let none_more : 0 * (m + 1) ≡ 0 = omega arith in
    ap (λ n. map f (range_with_len 0 n)) none_more ∙ sym (ap (λ n. map f (range_with_len 0 n) ++ []) none)
values_more (suc w) m canvas = values_more_by (suc w) m canvas (omega arith)

-- A part of a row of values is the row of the rectangle.
pub part_is_row : (values : List ℕ) (w h : ℕ) (area : Rect) (m : ℕ) → length values ≡ w * h → IsWithin area w h → m < area.h
    → part_row values ((area.y + m) * w + area.x) area.w ≡ row_at area.w (part_of area (value_at w values)) m
part_is_row values w h area m len on lt =
    let row : List ℕ = part_row values ((area.y + m) * w + area.x) area.w in
    let f : ℕ → ℕ = λ k. part_of area (value_at w values) k m in
    let count : length row ≡ area.w = part_len values w h area.x (area.y + m) area.w len (omega (arith, on.down)) on.across in
    sym (map_range_is f 0 row (λ k less. let z : 0 + k ≡ k = omega arith in ap f z ∙ sym (part_at values w area.x (area.y + m) area.w k (omega arith))))
    ∙ ap (λ n. map f (range_with_len 0 n)) count

-- One row more is written, by what turns rows into values or bytes.
rows_more : {B : Type 0} (spell : List ℕ → List B) → ((xs ys : List ℕ) → spell (xs ++ ys) ≡ spell xs ++ spell ys)
    → (w m : ℕ) (canvas : Canvas) (start size k : ℕ) (out new : List B) → start ≤ length out → take start out ≡ spell (values_of w m canvas)
    → new ≡ spell (row_at w canvas m) → size ≡ start + length new → take size (put_mid start k out new) ≡ spell (values_of w (m + 1) canvas)
rows_more spell splits w m canvas start size k out new le sofar this count =
    take-put_mid start k out new size count le
    ∙ (ap (λ t. t ++ new) sofar
    ∙ (ap (λ t. spell (values_of w m canvas) ++ t) this ∙ (sym (splits (values_of w m canvas) (row_at w canvas m)) ∙ ap spell (sym (values_more w m canvas)))))

pub rows_written : (format : PixelFormat) (w m : ℕ) (canvas : Canvas) (start size k : ℕ) (out new : List ℕ) → start ≤ length out → take start out ≡ row_bytes format (values_of w m canvas)
    → new ≡ row_bytes format (row_at w canvas m) → size ≡ start + length new → take size (put_mid start k out new) ≡ row_bytes format (values_of w (m + 1) canvas)
rows_written format = rows_more (row_bytes format) (λ xs ys. flat_map-append (λ colour. pixel_bytes format (tint format colour)) xs ys)

pub rows_tinted : (format : PixelFormat) (w m : ℕ) (canvas : Canvas) (start size k : ℕ) (out new : List ℕ) → start ≤ length out → take start out ≡ map (tint format) (values_of w m canvas)
    → new ≡ map (tint format) (row_at w canvas m) → size ≡ start + length new → take size (put_mid start k out new) ≡ map (tint format) (values_of w (m + 1) canvas)
rows_tinted format = rows_more (map (tint format)) (λ xs ys. map-append (tint format) xs ys)

-- ---- the room for it

-- A rectangle whose width and height fit into two bytes each has fewer than 2^32 positions.
pub few_positions : (w h : ℕ) → w < 65536 → h < 65536 → w * h ≤ 4294836225
few_positions w h lw lh =
    let le : w ≤ 65535 = omega (arith, lw) in
    let wide : w * h ≤ 65535 * h = mul-le-mul_right h le in
    omega (arith, wide, lh)

-- A part of a row lies within the values.
pub row_within : (x y m across w h n : ℕ) → n ≡ w * h → x + across ≤ w → y + m < h → (y + m) * w + x + across ≤ n
row_within x y m across w h n size in_row in_rows =
    let up_to : (y + m + 1) * w ≤ h * w = mul-le-mul_right w (omega arith) in
    let more : (y + m + 1) * w ≡ (y + m) * w + w = omega arith in
    omega (arith, size, in_row, up_to, more, mul_comm w h)

-- And its pixels within the bytes.
pub bytes_within : (m len h : ℕ) → m < h → m * len + len ≤ h * len
bytes_within m len h lt =
    let up_to : (m + 1) * len ≤ h * len = mul-le-mul_right len (omega arith) in
    let more : (m + 1) * len ≡ m * len + len = omega arith in
    omega (arith, up_to, more)
