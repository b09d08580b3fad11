-- A reader that takes bytes of a tile. `Reader::feed` says of its steps together what each says of its bytes.
use Rattle.std.proofs.Common.{◌≡◌, ℕ, ◌+◌, ◌*◌, ◌<◌, ◌≤◌, true, false, List, [], ◌∷◌, ◌++◌, length, length-append, take, refl, sym, ap, ◌∙◌, inl, inr, arith}
use Rattle.std.proofs.lemmas.Bool.{cases_lt, eq-eqb}
use Rattle.std.proofs.lemmas.List.{take_all}
use Rattle.pixel_format.specs.PixelFormat.{PixelFormat}
use Rattle.byte_reading.specs.Reading.{Reading, after, ◌>>=◌}
use Rattle.raster.specs.declared.rect.Rect.{Rect}
use Rattle.raster.specs.Screen.{Canvas, tile_count, tile_rect}
use Rattle.raster.specs.Encoding.{Carried, Tile}
use Rattle.hextile_codec.specs.declared.stage.Stage.{Stage}
use Rattle.hextile_codec.specs.declared.stage.Stage.TheVariants.{Mask, RawPixels, Head, Subrects, Failed}
use Rattle.raster.specs.Reader.{Goes, Steps}
use Rattle.hextile_codec.specs.Ahead.{Progress, Part, Sofar, blank, ahead, next_form, tile_rest, others_behind, Led, Leads, Keeps, Stands, IsLater, IsReady, IsPlace, is_whole, needed}
use Rattle.hextile_codec.proofs.Goes.{goes_to, goes_under, goes_behind}
use Rattle.hextile_codec.proofs.Behind.{in_tile, next_tile, whole_tile}
use Rattle.hextile_codec.proofs.RowRead.{pixel_some}
use Rattle.hextile_codec.proofs.TilesShown.{before_stays, before_more}

abbrev pub at_tile : PixelFormat → ℕ → ℕ → ℕ → Carried → Stage → List ℕ → Progress
at_tile format w h k carried stage begun = record { format = format; width = w; height = h; tile = k; carried = carried; stage = stage; begun = begun }

nothing_begun : {A : Type 0} (form : Reading A) (begun : List ℕ) → begun ≡ [] → after form begun ≡ form
nothing_begun form begun e = ap (after form) e

-- It stays in its tile.
pub stays_in_tile : (keep : ℕ → ℕ) → (format : PixelFormat) (w h k : ℕ) (area : Rect) (carried later : Carried) (stage next : Stage) (begun bytes : List ℕ) (old new : Canvas) (sofar : Sofar) → k < tile_count w h → area ≡ tile_rect w h k → begun ≡ []
    → Keeps area w h old new → ((part : Part) → Leads keep format area carried later stage next bytes old new part)
    → Stands keep (at_tile format w h k carried stage begun) old sofar → Steps ahead (Stands keep) (at_tile format w h k carried stage begun) (at_tile format w h k later next begun) new bytes sofar
stays_in_tile keep format w h k area carried later stage next begun bytes old new sofar lt is none keeps leads stands =
    let here : Rect = tile_rect w h k in
    let led : Led keep format here carried later stage next bytes new sofar.part = (rw is at leads) sofar.part stands.part in
    let grown : Sofar = record { tiles = sofar.tiles; part = led.grown } in
    let under : Goes (tile_rest format here.w here.h carried stage sofar.part >>= others_behind format w h k sofar.tiles) bytes (tile_rest format here.w here.h later next led.grown >>= others_behind format w h k sofar.tiles) =
    goes_under (tile_rest format here.w here.h carried stage sofar.part) (tile_rest format here.w here.h later next led.grown) (others_behind format w h k sofar.tiles) bytes led.goes in
    let from : ahead (at_tile format w h k carried stage begun) sofar ≡ (tile_rest format here.w here.h carried stage sofar.part >>= others_behind format w h k sofar.tiles) =
    nothing_begun (next_form format w h k carried stage sofar) begun none ∙ in_tile format w h k carried stage sofar lt in
    let to : ahead (at_tile format w h k later next begun) grown ≡ (tile_rest format here.w here.h later next led.grown >>= others_behind format w h k sofar.tiles) =
    nothing_begun (next_form format w h k later next grown) begun none ∙ in_tile format w h k later next grown lt in
    record {
      drawing = grown;
      goes = rw (from, to) under;
      stands = record { count = stands.count; before = before_stays keep w h k old new sofar.tiles (rw is at keeps) stands.before; part = led.shows };
    }

-- Its tile is whole, and it goes on to the next.
pub leaves_tile : (keep : ℕ → ℕ) → (format : PixelFormat) (w h k : ℕ) (area : Rect) (carried later : Carried) (stage next : Stage) (begun bytes : List ℕ) (old new : Canvas) (sofar : Sofar) → k < tile_count w h → area ≡ tile_rect w h k → begun ≡ []
    → Keeps area w h old new → ((part : Part) → Leads keep format area carried later stage next bytes old new part) → is_whole area.w area.h next ≡ true
    → Stands keep (at_tile format w h k carried stage begun) old sofar → Steps ahead (Stands keep) (at_tile format w h k carried stage begun) (at_tile format w h (k + 1) later Mask begun) new bytes sofar
leaves_tile keep format w h k area carried later stage next begun bytes old new sofar lt is none keeps leads whole stands =
    let here : Rect = tile_rect w h k in
    let led : Led keep format here carried later stage next bytes new sofar.part = (rw is at leads) sofar.part stands.part in
    let t = whole_tile keep format here later next new led.grown (rw is at whole) led.shows in
    let grown : Sofar = record { tiles = sofar.tiles ++ t.what ∷ []; part = blank } in
    let behind : Tile × Carried → Reading (List Tile) = others_behind format w h k sofar.tiles in
    let under : Goes (tile_rest format here.w here.h carried stage sofar.part >>= behind) bytes (tile_rest format here.w here.h later next led.grown >>= behind) =
    goes_under (tile_rest format here.w here.h carried stage sofar.part) (tile_rest format here.w here.h later next led.grown) behind bytes led.goes in
    let from : ahead (at_tile format w h k carried stage begun) sofar ≡ (tile_rest format here.w here.h carried stage sofar.part >>= behind) =
    nothing_begun (next_form format w h k carried stage sofar) begun none ∙ in_tile format w h k carried stage sofar lt in
    let to : (tile_rest format here.w here.h later next led.grown >>= behind) ≡ ahead (at_tile format w h (k + 1) later Mask begun) grown =
    ap (λ (r : Reading (Tile × Carried)). r >>= behind) t.is ∙ (next_tile format w h k sofar.tiles t.what later ∙ sym (nothing_begun (next_form format w h (k + 1) later Mask grown) begun none)) in
    record {
      drawing = grown;
      goes = rw from (goes_to (tile_rest format here.w here.h carried stage sofar.part >>= behind) (tile_rest format here.w here.h later next led.grown >>= behind) (ahead (at_tile format w h (k + 1) later Mask begun) grown) bytes under to);
      stands = record {
        count = omega (arith, length-append sofar.tiles (t.what ∷ []), stands.count);
        before = before_more keep w h k new sofar.tiles t.what stands.count (before_stays keep w h k old new sofar.tiles (rw is at keeps) stands.before) t.shows;
        part = tt;
      };
    }

-- ---- where it stands then

later_ready : (format : PixelFormat) (area : Rect) (next : Stage) → IsLater format area next → is_whole area.w area.h next ≡ false → IsReady format area next
later_ready format area Mask l e = tt
later_ready format area (RawPixels count) l e = elim (cases_lt count (area.w * area.h)) [
  | inl lt ↦ lt
  | inr le ↦ let t : true ≡ false = sym (eq-eqb count (area.w * area.h) (omega (arith, l, le))) ∙ e in absurd cc
]
later_ready format area (Head mask) l e = l
later_ready format area (Subrects coloured left) l e = elim (cases_lt 0 left) [
  | inl lt ↦ lt
  | inr le ↦ let t : true ≡ false = sym (eq-eqb left 0 (omega (arith, le))) ∙ e in absurd cc
]
later_ready format area (Failed flaw) l e = tt

needs_some : (format : PixelFormat) (area : Rect) (stage : Stage) → IsReady format area stage → 0 < needed format stage
needs_some format area Mask r = omega arith
needs_some format area (RawPixels count) r = pixel_some format
needs_some format area (Head mask) r = r
needs_some format area (Subrects coloured left) r = omega arith
needs_some format area (Failed flaw) r = omega arith

-- In the same tile.
pub place_stays : (format : PixelFormat) (w h tiles k : ℕ) (area : Rect) (stage next : Stage) → IsPlace format w h tiles k area stage 0 → k < tiles → IsLater format area next → is_whole area.w area.h next ≡ false → IsPlace format w h tiles k area next 0
place_stays format w h tiles k area stage next p lt l e =
    let ready : IsReady format area next = later_ready format area next l e in
    record { wide = p.wide; high = p.high; count = p.count; within = p.within; lies = p.lies; ready = λ _. ready; over = λ same. absurd (omega (arith, lt, same)); room = needs_some format area next ready }

-- In the next one.
pub place_moves : (format : PixelFormat) (w h tiles k : ℕ) (area there : Rect) (stage : Stage) → IsPlace format w h tiles k area stage 0 → k < tiles → (k + 1 < tiles → there ≡ tile_rect w h (k + 1)) → IsPlace format w h tiles (k + 1) there Mask 0
place_moves format w h tiles k area there stage p lt is =
    record { wide = p.wide; high = p.high; count = p.count; within = omega (arith, lt); lies = is; ready = λ _. tt; over = λ _. refl; room = omega arith }

-- The bytes that were wanted have come in two parts, of which the first was kept.
pub kept_first : (keep : ℕ → ℕ) → (format : PixelFormat) (w h k : ℕ) (carried : Carried) (stage : Stage) (begun more field : List ℕ) (used : ℕ) (new : Progress) (canvas : Canvas) (sofar : Sofar) → field ≡ begun ++ more → length field ≤ used
    → Steps ahead (Stands keep) (at_tile format w h k carried stage []) new canvas (take used field) sofar → Steps ahead (Stands keep) (at_tile format w h k carried stage begun) new canvas more sofar
kept_first keep format w h k carried stage begun more field used new canvas sofar joined le s =
    let all : take used field ≡ begun ++ more = take_all used field le ∙ joined in
    record {
      drawing = s.drawing;
      goes = goes_behind (next_form format w h k carried stage sofar) (ahead new s.drawing) begun more (rw all at s.goes);
      stands = s.stands;
    }
