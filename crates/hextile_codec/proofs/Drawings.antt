-- What a tile is written as, how long that is, and what it leaves. `encode` chooses a tile's kind before it writes, and
-- keeps what it carries on.
use Rattle.std.proofs.Common.{◌≡◌, ℕ, Bool, true, false, cond, List, [], ◌∷◌, ◌++◌, length, Some, None, refl, sym, ap, ◌∙◌, ◌+◌, ◌*◌, ◌<◌, ◌≤◌, length-append, arith}
use Rattle.std.specs.Prelude.{◌==◌, nat_le}
use Rattle.std.specs.List.{flat_map, list_all}
use Rattle.std.proofs.lemmas.Bool.{le-leb, lt-leb}
use Rattle.pixel_format.specs.PixelFormat.{PixelFormat, pixel_len, pixel_bytes}
use Rattle.pixel_format.proofs.Pixels.{pixel_size}
use Rattle.raster.specs.Screen.{Canvas, values_of}
use Rattle.raster.specs.Encoding.{Subrect, Carried, nothing_carried, raw_bytes, place_bytes, coloured_bytes, is_said, unless_said, drawn_bytes, drawn_leaves}
use Rattle.raster.proofs.Spellings.{Each}
use Rattle.raster.proofs.Runs.{each_run, run_some, run_within}
use Rattle.raster.proofs.Places.{length_values}
use Rattle.joined_runs.specs.declared.rect_form.RectForm.{RectForm}
use Rattle.joined_runs.specs.declared.rect_form.RectForm.TheVariants.{OfRows, Joined}
use Rattle.joined_runs.specs.Joined.{background_of, subrects_of, tile_bytes_as}
use Rattle.joined_runs.proofs.JoinedDrawn.{each_joined, joined_within}
use Rattle.hextile_codec.specs.declared.tile_kind.TileKind.{TileKind}
use Rattle.hextile_codec.specs.declared.tile_kind.TileKind.TheVariants.{Raw, Plain, TwoColours, Coloured}
use Rattle.hextile_codec.specs.TileKinds.{has_one_value, kind_of, drawn_len, leaves_of, IsWrittenAs, IsChosen}

-- ---- lengths

pub raw_len : (format : PixelFormat) (values : List ℕ) → length (raw_bytes format values) ≡ pixel_len format * length values
raw_len format [] = omega arith
raw_len format (v ∷ vs) =
    let p : ℕ = pixel_len format in
    let rest : length (raw_bytes format vs) ≡ p * length vs = raw_len format vs in
    let sizes : p * (length vs + 1) ≡ p * length vs + p = omega arith in
    omega (arith, length-append (pixel_bytes format v) (raw_bytes format vs), pixel_size format v, rest, sizes)

pub places_len : (ss : List Subrect) → length (flat_map place_bytes ss) ≡ 2 * length ss
places_len [] = omega arith
places_len (s ∷ ss) =
    let rest : length (flat_map place_bytes ss) ≡ 2 * length ss = places_len ss in
    omega (arith, length-append (place_bytes s) (flat_map place_bytes ss), rest)

pub one_coloured_len : (format : PixelFormat) (s : Subrect) → length (coloured_bytes format s) ≡ pixel_len format + 2
one_coloured_len format s = omega (arith, length-append (pixel_bytes format s.value) (place_bytes s), pixel_size format s.value)

pub coloured_len : (format : PixelFormat) (ss : List Subrect) → length (flat_map (coloured_bytes format) ss) ≡ (pixel_len format + 2) * length ss
coloured_len format [] = omega arith
coloured_len format (s ∷ ss) =
    let n : ℕ = pixel_len format + 2 in
    let rest : length (flat_map (coloured_bytes format) ss) ≡ n * length ss = coloured_len format ss in
    let sizes : n * (length ss + 1) ≡ n * length ss + n = omega arith in
    omega (arith, length-append (coloured_bytes format s) (flat_map (coloured_bytes format) ss), one_coloured_len format s, rest, sizes)

-- ---- a drawing by its kind

abbrev pub background_bit : Carried → ℕ → ℕ
background_bit before background = cond (is_said before.background background) 0 2

abbrev pub two_bytes : PixelFormat → Carried → ℕ → List Subrect → ℕ → List ℕ
two_bytes format before background ss foreground =
    ((background_bit before background + cond (is_said before.foreground foreground) 8 12) ∷ unless_said format before.background background) ++ unless_said format before.foreground foreground
    ++ length ss ∷ flat_map place_bytes ss

abbrev pub many_bytes : PixelFormat → Carried → ℕ → List Subrect → List ℕ
many_bytes format before background ss =
    ((background_bit before background + 24) ∷ unless_said format before.background background) ++ length ss ∷ flat_map (coloured_bytes format) ss

is_two : (b : Bool) (u v : ℕ) (f : ℕ → List ℕ) (ys : List ℕ) → cond b (TwoColours u) Coloured ≡ TwoColours v → cond b (f u) ys ≡ f v
is_two true u v f ys e = let same : u ≡ v = cc in ap f same
is_two false u v f ys e = absurd cc

is_many : (b : Bool) (u : ℕ) (xs ys : List ℕ) → cond b (TwoColours u) Coloured ≡ Coloured → cond b xs ys ≡ ys
is_many true u xs ys e = absurd cc
is_many false u xs ys e = refl

some_kind : (b : Bool) (u : ℕ) → cond b (TwoColours u) Coloured ≡ Plain → ⊥
some_kind true u e = cc
some_kind false u e = cc

drawn_kind : (b : Bool) (u : ℕ) → cond b (TwoColours u) Coloured ≡ Raw → ⊥
drawn_kind true u e = cc
drawn_kind false u e = cc

pub drawn_two : (format : PixelFormat) (before : Carried) (background : ℕ) (ss : List Subrect) (foreground : ℕ) → kind_of ss ≡ TwoColours foreground → drawn_bytes format before background ss ≡ two_bytes format before background ss foreground
drawn_two format before background [] foreground e = absurd cc
drawn_two format before background (s ∷ ss) foreground e =
    is_two (list_all (λ t. t.value == s.value) ss) s.value foreground (two_bytes format before background (s ∷ ss)) (many_bytes format before background (s ∷ ss)) e

pub drawn_many : (format : PixelFormat) (before : Carried) (background : ℕ) (ss : List Subrect) → kind_of ss ≡ Coloured → drawn_bytes format before background ss ≡ many_bytes format before background ss
drawn_many format before background [] e = absurd cc
drawn_many format before background (s ∷ ss) e =
    is_many (list_all (λ t. t.value == s.value) ss) s.value (two_bytes format before background (s ∷ ss) s.value) (many_bytes format before background (s ∷ ss)) e

pub drawn_plain : (format : PixelFormat) (before : Carried) (background : ℕ) (ss : List Subrect) → kind_of ss ≡ Plain → drawn_bytes format before background ss ≡ background_bit before background ∷ unless_said format before.background background
drawn_plain format before background [] e = refl
drawn_plain format before background (s ∷ ss) e = absurd (some_kind (list_all (λ t. t.value == s.value) ss) s.value e)

pub never_raw : (ss : List Subrect) → kind_of ss ≡ Raw → ⊥
never_raw [] e = cc
never_raw (s ∷ ss) e = drawn_kind (list_all (λ t. t.value == s.value) ss) s.value e

-- ---- its length

two_len : (format : PixelFormat) (before : Carried) (background : ℕ) (ss : List Subrect) (foreground : ℕ) → length (two_bytes format before background ss foreground) ≡ drawn_len format before background (TwoColours foreground) (length ss)
two_len format before background ss foreground =
    let bb : List ℕ = unless_said format before.background background in
    let fb : List ℕ = unless_said format before.foreground foreground in
    let mask : ℕ = background_bit before background + cond (is_said before.foreground foreground) 8 12 in
    omega (arith, length-append (mask ∷ bb) fb, length-append ((mask ∷ bb) ++ fb) (length ss ∷ flat_map place_bytes ss), places_len ss)

many_len : (format : PixelFormat) (before : Carried) (background : ℕ) (ss : List Subrect) → length (many_bytes format before background ss) ≡ drawn_len format before background Coloured (length ss)
many_len format before background ss =
    let bb : List ℕ = unless_said format before.background background in
    let mask : ℕ = background_bit before background + 24 in
    omega (arith, length-append (mask ∷ bb) (length ss ∷ flat_map (coloured_bytes format) ss), coloured_len format ss)

pub drawn_has : (format : PixelFormat) (before : Carried) (background : ℕ) (ss : List Subrect) (kind : TileKind) → kind ≡ kind_of ss → drawn_len format before background kind (length ss) ≡ length (drawn_bytes format before background ss)
drawn_has format before background ss Raw e = absurd (never_raw ss (sym e))
drawn_has format before background ss Plain e = sym (ap length (drawn_plain format before background ss (sym e)) ∙ omega arith)
drawn_has format before background ss (TwoColours v) e = sym (ap length (drawn_two format before background ss v (sym e)) ∙ two_len format before background ss v)
drawn_has format before background ss Coloured e = sym (ap length (drawn_many format before background ss (sym e)) ∙ many_len format before background ss)

-- Runs of several values have at least a pixel and a place each.
mixed_kind : (ss : List Subrect) → has_one_value ss ≡ false → kind_of ss ≡ Coloured
mixed_kind [] e = absurd cc
mixed_kind (s ∷ ss) e = ap (λ b. cond b (TwoColours s.value) Coloured) e

pub mixed_least : (format : PixelFormat) (before : Carried) (background : ℕ) (ss : List Subrect) → has_one_value ss ≡ false → (pixel_len format + 2) * length ss ≤ length (drawn_bytes format before background ss)
mixed_least format before background ss e =
    let kind : Coloured ≡ kind_of ss = sym (mixed_kind ss e) in
    let has = drawn_has format before background ss Coloured kind in
    omega (arith, has)

-- ---- what it leaves

leaves_by : (b : Bool) (u background : ℕ) → leaves_of (cond b (TwoColours u) Coloured) background ≡ record { background = Some background; foreground = cond b (Some u) None }
leaves_by true u background = refl
leaves_by false u background = refl

kind_leaves : (background : ℕ) (ss : List Subrect) → leaves_of (kind_of ss) background ≡ drawn_leaves background ss
kind_leaves background [] = refl
kind_leaves background (s ∷ ss) = leaves_by (list_all (λ t. t.value == s.value) ss) s.value background

-- ---- the choice

module _ (form : RectForm) (format : PixelFormat) (before : Carried) (w h : ℕ) (canvas : Canvas) where
  abbrev as_raw : List ℕ
  as_raw = 1 ∷ raw_bytes format (values_of w h canvas)

  abbrev as_drawn : List ℕ
  as_drawn = drawn_bytes format before (background_of form w h canvas) (subrects_of form w h canvas)

  pub as_raw_len : length as_raw ≡ 1 + pixel_len format * (w * h)
  as_raw_len =
      let e : length (raw_bytes format (values_of w h canvas)) ≡ pixel_len format * (w * h) = raw_len format (values_of w h canvas) ∙ ap (λ n. pixel_len format * n) (length_values w h canvas) in
      omega (arith, e)

  is_raw : 1 + pixel_len format * (w * h) ≤ length as_drawn → tile_bytes_as form format before w h canvas ≡ (as_raw, nothing_carried)
  is_raw le =
      let test : nat_le (length as_raw) (length as_drawn) ≡ true = le-leb (length as_raw) (length as_drawn) (omega (arith, as_raw_len)) in
      ap (λ b. cond b (as_raw, nothing_carried) (as_drawn, drawn_leaves (background_of form w h canvas) (subrects_of form w h canvas))) test

  is_drawn : length as_drawn < 1 + pixel_len format * (w * h) → tile_bytes_as form format before w h canvas ≡ (as_drawn, drawn_leaves (background_of form w h canvas) (subrects_of form w h canvas))
  is_drawn lt =
      let test : nat_le (length as_raw) (length as_drawn) ≡ false = lt-leb (length as_raw) (length as_drawn) (omega (arith, as_raw_len)) in
      ap (λ b. cond b (as_raw, nothing_carried) (as_drawn, drawn_leaves (background_of form w h canvas) (subrects_of form w h canvas))) test

  pub chosen_raw : (found : List Subrect) (background len : ℕ) → len ≡ 1 + pixel_len format * (w * h) → 1 + pixel_len format * (w * h) ≤ length as_drawn → IsChosen form format before w h canvas found (record { kind = Raw; background = background; len = len })
  chosen_raw found background len size le =
      let is = is_raw le in
      record { len = size ∙ (sym as_raw_len ∙ ap (λ (t : List ℕ × Carried). length t.0) (sym is)); leaves = ap (λ (t : List ℕ × Carried). t.1) (sym is); written = ap (λ (t : List ℕ × Carried). t.0) is }

  drawn_as : (found : List Subrect) (background : ℕ) (kind : TileKind) (bytes : List ℕ) → bytes ≡ drawn_bytes format before background found → kind ≡ kind_of found → found ≡ subrects_of form w h canvas → IsWrittenAs form format before w h canvas found background kind bytes
  drawn_as found background Raw bytes e k r = absurd (never_raw found (sym k))
  drawn_as found background Plain bytes e k r = (e, k, r)
  drawn_as found background (TwoColours v) bytes e k r = (e, k, r)
  drawn_as found background Coloured bytes e k r = (e, k, r)

  pub chosen_drawn : (found : List Subrect) (background len : ℕ) (kind : TileKind) → found ≡ subrects_of form w h canvas → background ≡ background_of form w h canvas → kind ≡ kind_of found → len ≡ drawn_len format before background kind (length found) → len < 1 + pixel_len format * (w * h)
      → IsChosen form format before w h canvas found (record { kind = kind; background = background; len = len })
  chosen_drawn found background len kind all first is size lt =
      let same : drawn_bytes format before background found ≡ as_drawn = ap (λ b. drawn_bytes format before b found) first ∙ ap (λ ss. drawn_bytes format before (background_of form w h canvas) ss) all in
      let has : len ≡ length as_drawn = size ∙ (drawn_has format before background found kind is ∙ ap length same) in
      let drawn = is_drawn (omega (arith, has)) in
      record {
        len = has ∙ ap (λ (t : List ℕ × Carried). length t.0) (sym drawn);
        leaves = ap (λ k. leaves_of k background) is ∙ (kind_leaves background found ∙ (ap (λ b. drawn_leaves b found) first ∙ (ap (λ ss. drawn_leaves (background_of form w h canvas) ss) all ∙ ap (λ (t : List ℕ × Carried). t.1) (sym drawn))));
        written = drawn_as found background kind (tile_bytes_as form format before w h canvas).0 (ap (λ (t : List ℕ × Carried). t.0) drawn ∙ sym same) is all;
      }

-- ---- the subrectangles are small

abbrev pub is_small : Subrect → Type 0
is_small s = (s.area.x < 16) × (s.area.y < 16) × (0 < s.area.w) × (s.area.w ≤ 16) × ((0 < s.area.h) × (s.area.h ≤ 16))

pub each_small : (form : RectForm) (canvas : Canvas) (w h : ℕ) → w ≤ 16 → h ≤ 16 → Each is_small (subrects_of form w h canvas)
each_small OfRows canvas w h lw lh =
    each_run canvas w h is_small (λ x y lx ly. let a = run_within canvas w y x lx in let b = run_some canvas w y x lx in (omega arith, omega arith, b, omega (arith, a), (omega arith, omega arith)))
each_small Joined canvas w h lw lh =
    let background : ℕ = background_of Joined w h canvas in
    each_joined canvas background w h is_small (λ x y lx ly.
    let a = run_within canvas w y x lx in
    let b = run_some canvas w y x lx in
    let d = joined_within canvas background w h x y ly in
    (omega arith, omega arith, b, omega (arith, a), (omega arith, omega (arith, d))))
