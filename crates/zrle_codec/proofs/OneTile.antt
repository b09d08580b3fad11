-- A tile in front of other bytes ends at one place and is received in one way: its first byte tells its form, and each
-- form can be told from what stands behind it.
use Rattle.std.proofs.Common.{◌≡◌, ℕ, Bool, true, false, cond, ◌+◌, ◌*◌, ◌^◌, ◌<◌, ◌≤◌, inl, inr, nat_lt, nat_le, if◌then◌else◌, List, [], ◌∷◌, ◌++◌, ◌∙◌, length, map, drop, replicate, refl, sym, ap, arith, append_assoc, length-append}
use Rattle.std.specs.Prelude.{slice_index, EachIndex}
use Rattle.std.specs.List.{flat_map, AllByRecursion}
use Rattle.std.proofs.lemmas.Bool.{leb-true}
use Rattle.std.proofs.lemmas.Bool.Decides.{nat_tests}
use Rattle.std.proofs.lemmas.List.{length-replicate, length-map, get_or-map, get_or-replicate, get_or_append_left, get_or-append_right}
use Rattle.std.proofs.lemmas.List.Elements.{recursion_from_All}
use Rattle.std.proofs.lemmas.Grind.{same_number_lists}
use Rattle.pixel_format.specs.PixelFormat.{PixelFormat}
use Rattle.zrle_codec.specs.Cpixel.{cpixel_bytes, received}
use Rattle.zrle_codec.specs.Tiles.{Run, ZrleTile, Raw, Solid, Packed, PlainRuns, PaletteRuns, ArePaletted, IsWellFormed, Fits, run_shows, looked_up, tile_shows, tile_bytes, index_bits, packed_rows, index_run_bytes}
use Rattle.zrle_codec.specs.OneThing.{TilesDrawOneThing}
use Rattle.zrle_codec.proofs.Apart.{AreIndexRuns, cpixel_apart, cpixels_apart, runs_apart, index_runs_apart, map-replicated}
use Rattle.zrle_codec.proofs.Unpacked.{IsSize, rows_apart}

-- ---- the first byte

-- the form of a tile, as a number
abbrev form_of : ZrleTile → ℕ
form_of (Raw values) = 0
form_of (Solid value) = 1
form_of (Packed palette indices) = 2
form_of (PlainRuns runs) = 3
form_of (PaletteRuns palette runs) = 4

-- the form that a first byte tells
abbrev form_told : ℕ → ℕ
form_told byte = if nat_lt byte 1 then 0 else (if nat_lt byte 2 then 1 else (if nat_lt byte 128 then 2 else (if nat_lt byte 129 then 3 else 4)))

told_packed : (n : ℕ) → 2 ≤ n → n ≤ 16 → form_told n ≡ 2
told_packed n two few = grind (arith, nat_tests)

told_palette_runs : (n : ℕ) → 2 ≤ n → form_told (n + 128) ≡ 4
told_palette_runs n two = grind (arith, nat_tests)

told : (format : PixelFormat) (w h : ℕ) (tile : ZrleTile) (r : List ℕ) → IsWellFormed tile → form_told (slice_index (tile_bytes format w h tile ++ r) 0) ≡ form_of tile
unfolding tile_bytes IsWellFormed
told format w h (Raw values) r form = refl
told format w h (Solid value) r form = refl
told format w h (Packed palette indices) r form = told_packed (length palette) form.0 form.1
told format w h (PlainRuns runs) r form = refl
told format w h (PaletteRuns palette runs) r form = told_palette_runs (length palette) form.0.0

-- ---- palettes

-- indices of palettes that are received alike
seen_through : (f : ℕ → ℕ) (palette known indices : List ℕ) → length palette ≡ length known → map f palette ≡ map f known → EachIndex indices (λ k. slice_index indices k < length palette)
    → map f (looked_up palette indices) ≡ map f (looked_up known indices)
seen_through f palette known indices size same each =
    let colour : (p : List ℕ) (k : ℕ) → k < length indices → slice_index indices k < length p → slice_index (map f (looked_up p indices)) k ≡ slice_index (map f p) (slice_index indices k) = λ p k lt there.
    get_or-map f (looked_up p indices) k 0 0 (omega (arith, length-map indices (slice_index p), lt))
    ∙ (ap f (get_or-map (slice_index p) indices k 0 0 lt) ∙ sym (get_or-map f p (slice_index indices k) 0 0 there)) in
    let long : (p : List ℕ) → length (map f (looked_up p indices)) ≡ length indices = λ p. length-map (looked_up p indices) f ∙ length-map indices (slice_index p) in
    same_number_lists (map f (looked_up palette indices)) (map f (looked_up known indices)) (long palette ∙ sym (long known))
    (λ k lt.
    let inside : k < length indices = omega (arith, long palette, lt) in
    let there : slice_index indices k < length palette = each k inside in
    colour palette k inside there ∙ (ap (λ t. slice_index t (slice_index indices k)) same ∙ sym (colour known k inside (omega (arith, size, there)))))

size_by : (one two : Bool) (n : ℕ) → nat_le n 2 ≡ one → nat_le n 4 ≡ two → n ≤ 16 → IsSize (cond one 1 (cond two 2 4)) × (n ≤ 2 ^ cond one 1 (cond two 2 4))
size_by true two n a b few = (inl refl, leb-true n 2 a)
size_by false true n a b few = (inr (inl refl), leb-true n 4 b)
size_by false false n a b few = (inr (inr refl), few)

-- indices of a palette that are packed have room in their bits
size_known : (n : ℕ) → n ≤ 16 → IsSize (index_bits n) × (n ≤ 2 ^ index_bits n)
unfolding index_bits
size_known n few = size_by (nat_le n 2) (nat_le n 4) n refl refl few

-- the index of each run is one of the palette
runs_known : (n : ℕ) (runs : List Run) → n ≤ 128 → AllByRecursion (λ x. 1 ≤ x.len) runs → EachIndex (flat_map run_shows runs) (λ k. slice_index (flat_map run_shows runs) k < n) → AreIndexRuns runs
unfolding run_shows
runs_known n [] few some each = tt
runs_known n (x ∷ xs) few some each =
    let rest : List ℕ = flat_map run_shows xs in
    let long : length (replicate x.len x.value) ≡ x.len = length-replicate x.len x.value in
    let all : length (replicate x.len x.value ++ rest) ≡ x.len + length rest = omega (arith, length-append (replicate x.len x.value) rest, long) in
    let first : slice_index (replicate x.len x.value ++ rest) 0 ≡ x.value = get_or_append_left (replicate x.len x.value) rest 0 0 (omega (arith, long, some.0)) ∙ get_or-replicate x.len 0 x.value 0 (omega (arith, some.0)) in
    let value : x.value < 128 = omega (arith, first, each 0 (omega (arith, all, some.0))) in
    let others : EachIndex rest (λ k. slice_index rest k < n) = λ k lt.
    let at : slice_index (replicate x.len x.value ++ rest) (x.len + k) ≡ slice_index rest k = get_or-append_right (replicate x.len x.value) rest x.len (x.len + k) 0 long (omega arith) ∙ ap (λ j. slice_index rest j) (omega arith) in
    omega (arith, at, each (x.len + k) (omega (arith, all, lt))) in
    ((some.0, value), runs_known n xs few some.1 others)

-- ---- a tile

pub record SameTile (format : PixelFormat) (w h : ℕ) (x y : ZrleTile) (r q : List ℕ) : Type 0 where
  pub bytes : tile_bytes format w h x ≡ tile_bytes format w h y
  pub seen : map (received format) (tile_shows w h x) ≡ map (received format) (tile_shows w h y)
  pub rest : r ≡ q

packed_apart : (format : PixelFormat) (w h : ℕ) (palette known xs ys r q : List ℕ) → ArePaletted 16 palette xs → ArePaletted 16 known ys → length xs ≡ w * h → length ys ≡ w * h
    → tile_bytes format w h (Packed palette xs) ++ r ≡ tile_bytes format w h (Packed known ys) ++ q → SameTile format w h (Packed palette xs) (Packed known ys) r q
unfolding tile_bytes tile_shows
packed_apart format w h palette known xs ys r q one two size as_many same =
    let f : ℕ → ℕ = received format in
    let colours : List ℕ → List ℕ = flat_map (cpixel_bytes format) in
    let bits : ℕ = index_bits (length palette) in
    let long : length palette ≡ length known = ap (λ t. slice_index t 0) same in
    let rows : ℕ → List ℕ → List ℕ = λ n t. packed_rows (index_bits n) w h t in
    let spread : (p t rest : List ℕ) → drop 1 (tile_bytes format w h (Packed p t) ++ rest) ≡ colours p ++ (rows (length p) t ++ rest) = λ p t rest. append_assoc (colours p) (rows (length p) t) rest in
    let pixels = cpixels_apart format palette known (rows (length palette) xs ++ r) (rows (length known) ys ++ q) long (sym (spread palette xs r) ∙ (ap (λ t. drop 1 t) same ∙ spread known ys q)) in
    let room = size_known (length palette) one.1 in
    let small : EachIndex xs (λ k. slice_index xs k < 2 ^ bits) = λ k lt. omega (arith, one.2 k lt, room.1) in
    let fits : EachIndex ys (λ k. slice_index ys k < 2 ^ bits) = λ k lt. omega (arith, two.2 k lt, room.1, long) in
    let packed = rows_apart bits w h xs ys r q room.0 size as_many small fits (omega (arith, one.0, room.1)) (pixels.rest ∙ ap (λ n. rows n ys ++ q) (sym long)) in
    record {
      bytes =
          ap (λ n. n ∷ (colours palette ++ rows n xs)) long ∙ (ap (λ t. length known ∷ (t ++ rows (length known) xs)) pixels.bytes
          ∙ ap (λ t. length known ∷ (colours known ++ rows (length known) t)) packed.indices);
      seen = seen_through f palette known xs long pixels.seen one.2 ∙ ap (λ t. map f (looked_up known t)) packed.indices;
      rest = packed.rest;
    }

palette_runs_apart : (format : PixelFormat) (w h : ℕ) (palette known : List ℕ) (xs ys : List Run) (r q : List ℕ) → ArePaletted 127 palette (flat_map run_shows xs) → ArePaletted 127 known (flat_map run_shows ys)
    → AllByRecursion (λ x. 1 ≤ x.len) xs → AllByRecursion (λ y. 1 ≤ y.len) ys → length (flat_map run_shows xs) ≡ length (flat_map run_shows ys)
    → tile_bytes format w h (PaletteRuns palette xs) ++ r ≡ tile_bytes format w h (PaletteRuns known ys) ++ q → SameTile format w h (PaletteRuns palette xs) (PaletteRuns known ys) r q
unfolding tile_bytes tile_shows
palette_runs_apart format w h palette known xs ys r q one two some none size same =
    let f : ℕ → ℕ = received format in
    let colours : List ℕ → List ℕ = flat_map (cpixel_bytes format) in
    let runs : List Run → List ℕ = flat_map index_run_bytes in
    let head : length palette + 128 ≡ length known + 128 = ap (λ t. slice_index t 0) same in
    let long : length palette ≡ length known = omega arith in
    let spread : (p : List ℕ) (t : List Run) (rest : List ℕ) → drop 1 (tile_bytes format w h (PaletteRuns p t) ++ rest) ≡ colours p ++ (runs t ++ rest) = λ p t rest. append_assoc (colours p) (runs t) rest in
    let pixels = cpixels_apart format palette known (runs xs ++ r) (runs ys ++ q) long (sym (spread palette xs r) ∙ (ap (λ t. drop 1 t) same ∙ spread known ys q)) in
    let indices = index_runs_apart xs ys r q (runs_known (length palette) xs (omega (arith, one.1)) some one.2) (runs_known (length known) ys (omega (arith, two.1)) none two.2) size pixels.rest in
    record {
      bytes =
          ap (λ n. (n + 128) ∷ (colours palette ++ runs xs)) long ∙ (ap (λ t. (length known + 128) ∷ (t ++ runs xs)) pixels.bytes
          ∙ ap (λ t. (length known + 128) ∷ (colours known ++ t)) indices.bytes);
      seen = seen_through f palette known (flat_map run_shows xs) long pixels.seen one.2 ∙ ap (λ t. map f (looked_up known t)) indices.shown;
      rest = indices.rest;
    }

forms_apart : (format : PixelFormat) (w h : ℕ) (x y : ZrleTile) (r q : List ℕ) → Fits w h x → Fits w h y → form_of x ≡ form_of y → tile_bytes format w h x ++ r ≡ tile_bytes format w h y ++ q → SameTile format w h x y r q
unfolding tile_bytes tile_shows IsWellFormed
forms_apart format w h (Raw us) (Raw vs) r q one two kind same =
    let pixels = cpixels_apart format us vs r q (one.count ∙ sym two.count) (ap (λ t. drop 1 t) same) in
    record { bytes = ap (λ t. 0 ∷ t) pixels.bytes; seen = pixels.seen; rest = pixels.rest }
forms_apart format w h (Solid u) (Solid v) r q one two kind same =
    let f : ℕ → ℕ = received format in
    let pixel = cpixel_apart format u v r q (ap (λ t. drop 1 t) same) in
    record {
      bytes = ap (λ t. 1 ∷ t) pixel.bytes;
      seen = map-replicated f (w * h) u ∙ (ap (λ n. replicate (w * h) n) pixel.seen ∙ sym (map-replicated f (w * h) v));
      rest = pixel.rest;
    }
forms_apart format w h (Packed palette xs) (Packed known ys) r q one two kind same =
    packed_apart format w h palette known xs ys r q one.form two.form
    (sym (length-map xs (slice_index palette)) ∙ one.count) (sym (length-map ys (slice_index known)) ∙ two.count) same
forms_apart format w h (PlainRuns xs) (PlainRuns ys) r q one two kind same =
    let runs = runs_apart format xs ys r q (recursion_from_All (λ x. 1 ≤ x.len) xs one.form) (recursion_from_All (λ y. 1 ≤ y.len) ys two.form) (one.count ∙ sym two.count) (ap (λ t. drop 1 t) same) in
    record { bytes = ap (λ t. 128 ∷ t) runs.bytes; seen = runs.seen; rest = runs.rest }
forms_apart format w h (PaletteRuns palette xs) (PaletteRuns known ys) r q one two kind same =
    palette_runs_apart format w h palette known xs ys r q one.form.0 two.form.0 (recursion_from_All (λ x. 1 ≤ x.len) xs one.form.1) (recursion_from_All (λ y. 1 ≤ y.len) ys two.form.1)
    (sym (length-map (flat_map run_shows xs) (slice_index palette)) ∙ (one.count ∙ (sym two.count ∙ length-map (flat_map run_shows ys) (slice_index known)))) same
forms_apart format w h x y r q one two kind same = absurd (omega (arith, kind))

pub tiles_apart : (format : PixelFormat) (w h : ℕ) (x y : ZrleTile) (r q : List ℕ) → Fits w h x → Fits w h y → tile_bytes format w h x ++ r ≡ tile_bytes format w h y ++ q → SameTile format w h x y r q
tiles_apart format w h x y r q one two same =
    let kind : form_of x ≡ form_of y = sym (told format w h x r one.form) ∙ (ap (λ t. form_told (slice_index t 0)) same ∙ told format w h y q two.form) in
    forms_apart format w h x y r q one two kind same

pub one_tile : TilesDrawOneThing
one_tile format w h a b rest others values known same one two =
    let tile = tiles_apart format w h one.tile two.tile rest others one.fits two.fits (sym (ap (λ t. t ++ rest) one.are) ∙ (same ∙ ap (λ t. t ++ others) two.are)) in (
      record { beginning = one.are ∙ (tile.bytes ∙ sym two.are); behind = tile.rest },
      sym one.shows ∙ (tile.seen ∙ two.shows),
    )
