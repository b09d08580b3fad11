-- The joined form of a rectangle in RRE and in Hextile (own). It is decoded as any other rectangle (RFC 6143, 7.7.3,
-- 7.7.4).
use Rattle.std.specs.Prelude.{◌≡◌, ℕ, zero, suc, ◌+◌, ◌-◌, ◌==◌, Bool, true, false, ◌&&◌, ◌||◌, not, nat_le, nat_lt, if◌then◌else◌, List, [], ◌∷◌, ◌++◌, length, map, filter, take, take_while, slice_index, Option, Some, None}
use Rattle.std.specs.List.{flat_map, list_all, range_with_len}
use Rattle.std.specs.Int.{w32, to_be_bytes}
use Rattle.pixel_format.specs.PixelFormat.{PixelFormat, pixel_bytes}
use Rattle.raster.specs.declared.encoding.Encoding.{Encoding}
use Rattle.raster.specs.declared.encoding.Encoding.TheVariants.{Raw, Rre, Hextile}
use Rattle.raster.specs.Screen.{Canvas, values_of, value_at, part_of, tile_count, tile_rect}
use Rattle.raster.specs.Encoding.{Subrect, Carried, nothing_carried, run_from, runs_of_row, raw_bytes, rre_subrect_bytes, drawn_bytes, drawn_leaves, form}
use Rattle.joined_runs.specs.declared.rect_form.RectForm.{RectForm}
use Rattle.joined_runs.specs.declared.rect_form.RectForm.TheVariants.{OfRows, Joined}

-- ---- the background

-- How often a value stands in a list.
abbrev pub count_of : List ℕ → ℕ → ℕ
count_of values value = length (filter (λ v. v == value) values)

-- No value stands in the list more often than this one.
abbrev pub is_most_frequent : List ℕ → ℕ → Bool
is_most_frequent values value = list_all (λ v. nat_le (count_of values v) (count_of values value)) values

-- The most frequent value, or the first of several.
abbrev pub most_frequent : List ℕ → ℕ
most_frequent values = slice_index (filter (is_most_frequent values) values) 0

-- ---- the runs

-- The runs of all rows over any background, from the top and in a row from the left.
abbrev pub runs_over : Canvas → ℕ → ℕ → ℕ → List Subrect
runs_over canvas background w h = flat_map (runs_of_row canvas background w) (range_with_len 0 h)

-- Row y has a run of the same left and right end and the same value.
abbrev pub stands_in : Canvas → ℕ → Subrect → ℕ → Bool
stands_in canvas w run y =
    (canvas run.area.x y == run.value)
    && (((run.area.x == 0) || not (canvas (run.area.x - 1) y == run.value))
    && ((run_from canvas w y run.area.x).area.w == run.area.w))

-- The row above has the same run, so this one is joined to it.
abbrev pub is_below : Canvas → ℕ → Subrect → Bool
is_below canvas w run = not (run.area.y == 0) && stands_in canvas w run (run.area.y - 1)

-- A run, joined with those directly below it.
abbrev pub with_below : Canvas → ℕ → ℕ → Subrect → Subrect
with_below canvas w h run =
    let below = length (take_while (stands_in canvas w run) (range_with_len (run.area.y + 1) (h - (run.area.y + 1)))) in
    record { value = run.value; area = record { x = run.area.x; y = run.area.y; w = run.area.w; h = 1 + below } }

-- The subrectangles that are written for runs of rows: these runs themselves; or, joined, the runs that aren't joined
-- to one above them, each with those below it.
abbrev pub written : RectForm → Canvas → ℕ → ℕ → List Subrect → List Subrect
written OfRows canvas w h runs = runs
written Joined canvas w h runs = map (with_below canvas w h) (filter (λ run. not (is_below canvas w run)) runs)

-- The joined runs of a rectangle over a background.
abbrev pub joined_runs : Canvas → ℕ → ℕ → ℕ → List Subrect
joined_runs canvas background w h = written Joined canvas w h (runs_over canvas background w h)

-- ---- RRE (RFC 6143, 7.7.3)

-- How many joined runs there are, the background, which is the first pixel's value, and the joined runs.
abbrev pub joined_rre_bytes : PixelFormat → ℕ → ℕ → Canvas → List ℕ
joined_rre_bytes format w h canvas =
    let subrects = joined_runs canvas (canvas 0 0) w h in
    to_be_bytes w32 (length subrects) ++ pixel_bytes format (canvas 0 0) ++ flat_map (rre_subrect_bytes format) subrects

-- ---- Hextile (RFC 6143, 7.7.4)

-- The background of a tile: the first pixel's value; or the most frequent one.
abbrev pub background_of : RectForm → ℕ → ℕ → Canvas → ℕ
background_of OfRows w h canvas = canvas 0 0
background_of Joined w h canvas = most_frequent (values_of w h canvas)

-- The subrectangles of a tile.
abbrev pub subrects_of : RectForm → ℕ → ℕ → Canvas → List Subrect
subrects_of runs w h canvas = written runs canvas w h (runs_over canvas (background_of runs w h canvas) w h)

-- The bytes of a tile, and what it carries on. The mask, what is left off, and when a tile is Raw follow the same rules
-- in both forms.
abbrev pub tile_bytes_as : RectForm → PixelFormat → Carried → ℕ → ℕ → Canvas → List ℕ × Carried
tile_bytes_as runs format before w h canvas =
    let background = background_of runs w h canvas in
    let subrects = subrects_of runs w h canvas in
    let drawn = drawn_bytes format before background subrects in
    let as_raw = 1 ∷ raw_bytes format (values_of w h canvas) in
    if nat_le (length as_raw) (length drawn) then (as_raw, nothing_carried) else (drawn, drawn_leaves background subrects)

-- This many tiles of a rectangle, the first of them number k.
abbrev pub tiles_from_as : RectForm → PixelFormat → ℕ → ℕ → Canvas → Carried → ℕ → ℕ → List ℕ
tiles_from_as runs format w h canvas before k zero = []
tiles_from_as runs format w h canvas before k (suc n) =
    let here = tile_rect w h k in
    let first = tile_bytes_as runs format before here.w here.h (part_of here canvas) in
    first.0 ++ tiles_from_as runs format w h canvas first.1 (k + 1) n

-- The tiles of a rectangle.
abbrev pub hextile_bytes_as : RectForm → PixelFormat → ℕ → ℕ → Canvas → List ℕ
hextile_bytes_as runs format w h canvas = tiles_from_as runs format w h canvas nothing_carried 0 (tile_count w h)

-- ---- both forms

-- The first of two spellings, unless the other has fewer bytes.
abbrev pub shorter : List ℕ → List ℕ → List ℕ
shorter bytes others = if nat_le (length bytes) (length others) then bytes else others

-- The data of a rectangle of these values in an encoding. Only in Hextile may joined runs have more bytes: where the
-- most frequent value isn't the first, there can be more runs, and the background may have to be said. The rectangle is
-- then written as the runs of rows.
abbrev pub form_of : RectForm → Encoding → PixelFormat → ℕ → ℕ → List ℕ → List ℕ
form_of OfRows encoding format w h values = form encoding format w h values
form_of Joined Raw format w h values = raw_bytes format values
form_of Joined Rre format w h values = joined_rre_bytes format w h (value_at w values)
form_of Joined Hextile format w h values = shorter (hextile_bytes_as Joined format w h (value_at w values)) (form Hextile format w h values)

-- The form is used only where it has fewer bytes than Raw.
abbrev pub saves_bytes_as : RectForm → Encoding → PixelFormat → ℕ → ℕ → List ℕ → Bool
saves_bytes_as runs encoding format w h values = nat_lt (length (form_of runs encoding format w h values)) (length (raw_bytes format values))

-- What an encoder answers. Where the form has fewer bytes than Raw, its bytes stand at the front of out, and their
-- number is the answer. Otherwise the answer is None.
abbrev pub IsEncodedAs : RectForm → Encoding → PixelFormat → ℕ → ℕ → List ℕ → List ℕ → Option ℕ → Type 0
IsEncodedAs runs encoding format w h values out (Some n) =
    (saves_bytes_as runs encoding format w h values ≡ true) × (n ≡ length (form_of runs encoding format w h values)) × (take n out ≡ form_of runs encoding format w h values)
IsEncodedAs runs encoding format w h values out None = saves_bytes_as runs encoding format w h values ≡ false
