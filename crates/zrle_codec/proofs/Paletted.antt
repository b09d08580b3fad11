-- Tiles with a palette.
use Rattle.std.proofs.Common.{◌≡◌, ℕ, ◌+◌, ◌*◌, ◌≤◌, ◌<◌, inl, inr, List, [], ◌∷◌, ◌++◌, ◌∙◌, length, map, take, drop, set, refl, sym, ap, subst, arith, append_assoc, length-drop}
use Rattle.std.specs.Prelude.{slice_index, EachIndex}
use Rattle.std.specs.List.{flat_map, range_with_len}
use Rattle.std.proofs.Math.Nat.{eq-or-lt_of_le, mul-le-mul_right}
use Rattle.std.proofs.lemmas.List.{append-nil, length-take-le, length-map, get_or-map, get_or-take, get_or-drop, get_or-set_same, get_or-set_other, map-id}
use Rattle.std.proofs.lemmas.List.FromFn.{map-range_with_len_more}
use Rattle.std.proofs.lemmas.Grind.{flat_map-append, same_number_lists}
use Rattle.pixel_format.specs.PixelFormat.{PixelFormat}
use Rattle.zrle_codec.specs.Cpixel.{cpixel_bytes, received}
use Rattle.zrle_codec.specs.Indexed.{AreIndexed, AreIndexedTo}
use Rattle.zrle_codec.specs.Appends.{AppendsRuns}
use Rattle.zrle_codec.specs.Tiles.{Packed, PaletteRuns, ArePaletted, run_shows, index_run_bytes, IsWellFormed, AppendsSome, tile_shows, tile_bytes, looked_up, packed_row, packed_rows, row_of, index_bits}

-- ---- finding indices

cases : {P : Type 0} (j k : ℕ) → j < k + 1 → (j < k → P) → (j ≡ k → P) → P
cases {P} j k lt below here =
    let le : j ≤ k = omega arith in
    elim (eq-or-lt_of_le le) as (λ _. P) [ inl e ↦ here e | inr l ↦ below l ]

pub no_indices : (values palette indices : List ℕ) → AreIndexedTo values palette indices 0 0
no_indices values palette indices = record { few = omega arith; known = λ k lt. absurd (omega arith); value = λ k lt. absurd (omega arith) }

pub index_known : (values palette indices : List ℕ) (count k i : ℕ) → k < length indices → i < count → slice_index palette i ≡ slice_index values k
    → AreIndexedTo values palette indices count k → AreIndexedTo values palette (set indices k i) count (k + 1)
index_known values palette indices count k i inside lt is before =
    let same = get_or-set_same indices k i 0 inside in
    record {
      few = before.few;
      known = λ j l.
          cases {P = slice_index (set indices k i) j < count} j k l
          (λ b. let other = get_or-set_other indices k j i 0 (λ e. omega arith) in omega (arith, other, before.known j b))
          (λ e. omega (arith, ap (λ n. slice_index (set indices k i) n) e, same));
      value = λ j l.
          cases {P = slice_index palette (slice_index (set indices k i) j) ≡ slice_index values j} j k l
          (λ b. ap (λ n. slice_index palette n) (get_or-set_other indices k j i 0 (λ e. omega arith)) ∙ before.value j b)
          (λ e. ap (λ n. slice_index palette n) (ap (λ n. slice_index (set indices k i) n) e ∙ same) ∙ (is ∙ ap (λ n. slice_index values n) (sym e)));
    }

-- a new colour
pub colour_more : (values palette indices : List ℕ) (count k v : ℕ) → count < 16 → AreIndexedTo values palette indices count k → AreIndexedTo values (set palette count v) indices (count + 1) k
colour_more values palette indices count k v room before = record {
  few = omega arith;
  known = λ j l. omega (arith, before.known j l);
  value = λ j l. get_or-set_other palette count (slice_index indices j) v 0 (λ e. omega (arith, before.known j l)) ∙ before.value j l;
}

pub index_new : (values palette indices : List ℕ) (count k v : ℕ) → k < length indices → count < 16 → count < length palette → v ≡ slice_index values k
    → AreIndexedTo values palette indices count k → AreIndexedTo values (set palette count v) (set indices k count) (count + 1) (k + 1)
index_new values palette indices count k v inside room within is before =
    index_known values (set palette count v) indices (count + 1) k count inside (omega arith) (get_or-set_same palette count v 0 within ∙ is)
    (colour_more values palette indices count k v room before)

-- ---- rows of packed indices

range_more : (n : ℕ) → range_with_len 0 (n + 1) ≡ range_with_len 0 n ++ n ∷ []
range_more n =
    sym (map-id (range_with_len 0 (n + 1))) ∙ (map-range_with_len_more (λ (k : ℕ). k) 0 n n (omega arith) ∙ ap (λ t. t ++ n ∷ []) (map-id (range_with_len 0 n)))

pub byte_more : (f : ℕ → ℕ) (old new newer : List ℕ) (j v : ℕ) → v ≡ f j → new ≡ old ++ map f (range_with_len 0 j) → newer ≡ new ++ v ∷ []
    → newer ≡ old ++ map f (range_with_len 0 (j + 1))
byte_more f old new newer j v is before put =
    put ∙ (ap (λ t. t ++ v ∷ []) before ∙ (append_assoc old (map f (range_with_len 0 j)) (v ∷ [])
    ∙ (ap (λ n. old ++ (map f (range_with_len 0 j) ++ n ∷ [])) is ∙ ap (λ t. old ++ t) (sym (map-range_with_len_more f 0 j j (omega arith))))))

pub row_more : (bits w y : ℕ) (indices row old new newer : List ℕ) → row ≡ row_of w indices y → new ≡ old ++ packed_rows bits w y indices → newer ≡ new ++ packed_row bits row
    → newer ≡ old ++ packed_rows bits w (y + 1) indices
unfolding packed_rows
row_more bits w y indices row old new newer is before put =
    let f : ℕ → List ℕ = λ k. packed_row bits (row_of w indices k) in
    let rows : List ℕ = flat_map f (range_with_len 0 y) in
    put ∙ (ap (λ t. t ++ packed_row bits row) before ∙ (append_assoc old rows (packed_row bits row)
    ∙ (ap (λ t. old ++ (rows ++ packed_row bits t)) is
    ∙ ap (λ t. old ++ t) (ap (λ t. rows ++ t) (sym (append-nil (f y))) ∙ (sym (flat_map-append f (range_with_len 0 y) (y ∷ [])) ∙ ap (flat_map f) (sym (range_more y)))))))

pub no_rows : (bits w : ℕ) (indices old : List ℕ) → old ≡ old ++ packed_rows bits w 0 indices
unfolding packed_rows
no_rows bits w indices old = sym (append-nil old)

-- ---- what indices draw

pub looked_up_is : (values palette indices : List ℕ) (count : ℕ) → length indices ≡ length values → count ≤ length palette → AreIndexed values palette indices count → looked_up (take count palette) indices ≡ values
looked_up_is values palette indices count size within is =
    let colours : List ℕ = take count palette in
    same_number_lists (looked_up colours indices) values (length-map indices (slice_index colours) ∙ size)
    (λ k lt.
    let l : k < length values = omega (arith, length-map indices (slice_index colours), size) in
    get_or-map (slice_index colours) indices k 0 0 (omega arith)
    ∙ (get_or-take count palette (slice_index indices k) 0 (is.known k l) ∙ is.value k l))

pub packed_tile : (format : PixelFormat) (w h count : ℕ) (values palette indices old new : List ℕ) → length values ≡ w * h → length indices ≡ length values → count ≤ length palette → 2 ≤ count → count ≤ 16
    → AreIndexed values palette indices count
    → new ≡ old ++ length (take count palette) ∷ (flat_map (cpixel_bytes format) (take count palette) ++ packed_rows (index_bits (length (take count palette))) w h indices)
    → AppendsSome format w h values old new
unfolding tile_shows tile_bytes IsWellFormed
packed_tile format w h count values palette indices old new size same within two few is put =
    let colours : List ℕ = take count palette in
    let many : length colours ≡ count = length-take-le count palette within in
    record {
      bytes = length colours ∷ (flat_map (cpixel_bytes format) colours ++ packed_rows (index_bits (length colours)) w h indices);
      spells = record {
        tile = Packed colours indices;
        fits = record {
          count = length-map indices (slice_index colours) ∙ (same ∙ size);
          form = (omega (arith, many), omega (arith, many), λ k lt. omega (arith, many, is.known k (omega (arith, same))));
        };
        shows = ap (map (received format)) (looked_up_is values palette indices count same within is);
        are = refl;
      };
      appended = put;
    }

pub palette_runs_tile : (format : PixelFormat) (w h count : ℕ) (values palette indices old new : List ℕ) → length values ≡ w * h → length indices ≡ length values → count ≤ length palette → 2 ≤ count
    → AreIndexed values palette indices count
    → AppendsRuns index_run_bytes (old ++ (length (take count palette) + 128) ∷ flat_map (cpixel_bytes format) (take count palette)) new indices
    → AppendsSome format w h values old new
unfolding tile_shows tile_bytes IsWellFormed
palette_runs_tile format w h count values palette indices old new size same within two is put =
    let colours : List ℕ = take count palette in
    let many : length colours ≡ count = length-take-le count palette within in
    let head : List ℕ = (length colours + 128) ∷ flat_map (cpixel_bytes format) colours in
    let P : List ℕ → Type 0 = λ t. ArePaletted 127 colours t in
    let form : ArePaletted 127 colours indices = (omega (arith, many), omega (arith, many, is.few), λ k lt. omega (arith, many, is.known k (omega (arith, same)))) in
    let shown : looked_up colours (flat_map run_shows put.runs) ≡ values = ap (λ t. looked_up colours t) put.shows ∙ looked_up_is values palette indices count same within is in
    record {
      bytes = head ++ flat_map index_run_bytes put.runs;
      spells = record {
        tile = PaletteRuns colours put.runs;
        fits = record { count = ap (λ t. length t) shown ∙ size; form = (subst P (sym put.shows) form, put.some) };
        shows = ap (map (received format)) shown;
        are = refl;
      };
      appended = put.appended ∙ append_assoc old head (flat_map index_run_bytes put.runs);
    }

-- ---- rows

pub row_inside : (y h w : ℕ) → y < h → y * w + w ≤ w * h
row_inside y h w lt = omega (arith, mul-le-mul_right {m = y + 1} {n = h} w (omega arith))

pub part_known : (xs : List ℕ) (from n limit : ℕ) → from + n ≤ length xs → EachIndex xs (λ k. slice_index xs k < limit)
    → EachIndex (take n (drop from xs)) (λ k. slice_index (take n (drop from xs)) k < limit)
part_known xs from n limit inside each k lt =
    let size : length (take n (drop from xs)) ≡ n = length-take-le n (drop from xs) (omega (arith, length-drop from xs)) in
    omega (arith, get_or-take n (drop from xs) k 0 (omega (arith, size)), get_or-drop from xs k 0, each (from + k) (omega (arith, size)))
