-- A subrectangle is read. `draw_subrects` draws it, or finds that it leaves the tile.
use Rattle.std.proofs.Common.{◌≡◌, ℕ, zero, suc, ◌+◌, ◌-◌, ◌<◌, Bool, true, false, not, List, [], ◌∷◌, ◌++◌, length, take, drop, refl, ap, arith}
use Rattle.std.specs.Prelude.{slice_index, unwrap_or}
use Rattle.std.proofs.lemmas.List.{length-take, length-drop}
use Rattle.pixel_format.specs.PixelFormat.{PixelFormat, pixel_len}
use Rattle.byte_reading.specs.Reading.{Reading, Done, Faulty, ◌>>=◌, byte, times, unless, Spells}
use Rattle.fault.specs.declared.kinds.Fault.TheVariants.{SubrectOutside}
use Rattle.raster.specs.declared.rect.Rect.{Rect}
use Rattle.raster.specs.Screen.{Canvas, LooksLike, is_within, fill, part_of}
use Rattle.raster.specs.Encoding.{Subrect, Carried, Tile, Drawn, subrect_value, hextile_subrect}
use Rattle.raster.proofs.Spellings.{spells_done}
use Rattle.raster.proofs.FixedLength.{pixel_says}
use Rattle.raster.proofs.RreLaws.{with_subrect}
use Rattle.hextile_codec.specs.declared.stage.Flaw.TheVariants as flaw
use Rattle.hextile_codec.specs.declared.stage.Stage.TheVariants.{Subrects, Failed}
use Rattle.raster.specs.Reader.{Goes}
use Rattle.hextile_codec.specs.Ahead.{Part, Led, IsDrawn, tile_rest, colour_in, colour_len, place_in}
use Rattle.hextile_codec.proofs.Goes.{goes_none, goes_split, goes_bind, goes_under, goes_times, goes_to}
use Rattle.hextile_codec.proofs.TileDrawn.{subrect_drawn}

-- The subrectangle in some bytes.
abbrev pub subrect_in : PixelFormat → Bool → Carried → List ℕ → Subrect
subrect_in format coloured carried bs =
    record {
      value = unwrap_or (colour_in format coloured carried.foreground bs) 0;
      area = place_in (slice_index (drop (colour_len format coloured) bs) 0) (slice_index (drop (colour_len format coloured) bs) 1);
    }

abbrev judged : ℕ → ℕ → Subrect → Reading Subrect
judged w h s = unless (not (is_within s.area w h)) SubrectOutside (Done s)

abbrev placed : ℕ → ℕ → ℕ → Reading Subrect
placed w h value = byte >>= λ position. byte >>= λ size. judged w h (record { value = value; area = place_in position size })

spells_value : (format : PixelFormat) (coloured : Bool) (carried : Carried) (bs : List ℕ) → colour_len format coloured + 2 ≡ length bs
    → Spells (subrect_value format coloured (unwrap_or carried.foreground 0)) (take (colour_len format coloured) bs) (unwrap_or (colour_in format coloured carried.foreground bs) 0)
spells_value format true carried bs e = pixel_says format (take (pixel_len format) bs) (omega (arith, length-take (pixel_len format) bs))
spells_value format false carried bs e = spells_done (unwrap_or carried.foreground 0)

place_goes : (w h value : ℕ) (bs : List ℕ) → length bs ≡ 2 → Goes (placed w h value) bs (judged w h (record { value = value; area = place_in (slice_index bs 0) (slice_index bs 1) }))
place_goes w h value [] e = absurd (omega (arith, e))
place_goes w h value (a ∷ []) e = absurd (omega (arith, e))
place_goes w h value (a ∷ b ∷ []) e =
    record { all = let n = goes_none (judged w h (record { value = value; area = place_in a b })) in ap (λ k. suc (suc k)) n.all; leads = refl }
place_goes w h value (a ∷ b ∷ c ∷ bs) e = absurd (omega (arith, e))

subrect_goes : (format : PixelFormat) (coloured : Bool) (carried : Carried) (w h : ℕ) (bs : List ℕ) → colour_len format coloured + 2 ≡ length bs
    → Goes (hextile_subrect format coloured (unwrap_or carried.foreground 0) w h) bs (judged w h (subrect_in format coloured carried bs))
subrect_goes format coloured carried w h bs e =
    let n : ℕ = colour_len format coloured in
    let value : ℕ = unwrap_or (colour_in format coloured carried.foreground bs) 0 in
    goes_split (hextile_subrect format coloured (unwrap_or carried.foreground 0) w h) (placed w h value) (judged w h (subrect_in format coloured carried bs)) n bs
    (goes_bind (subrect_value format coloured (unwrap_or carried.foreground 0)) (placed w h) (take n bs) value (spells_value format coloured carried bs e))
    (place_goes w h value (drop n bs) (omega (arith, length-drop n bs)))

-- One that lies inside.
inside_goes : (format : PixelFormat) (coloured : Bool) (carried : Carried) (w h left : ℕ) (part : Part) (bs : List ℕ) → colour_len format coloured + 2 ≡ length bs → is_within (subrect_in format coloured carried bs).area w h ≡ true
    → Goes (tile_rest format w h carried (Subrects coloured (suc left)) part) bs (tile_rest format w h carried (Subrects coloured left) (record { pixels = part.pixels; drawing = with_subrect part.drawing (subrect_in format coloured carried bs) }))
inside_goes format coloured carried w h left part bs e inside =
    let s : Subrect = subrect_in format coloured carried bs in
    let one : Reading Subrect = hextile_subrect format coloured (unwrap_or carried.foreground 0) w h in
    let g : Goes one bs (Done s) = goes_to one (judged w h s) (Done s) bs (subrect_goes format coloured carried w h bs e) (ap (λ b. unless (not b) SubrectOutside (Done s)) inside) in
    goes_times one (λ ss. Done (Drawn (record { background = part.drawing.background; subrects = ss }), carried)) left part.drawing.subrects bs s (record { whole = g.all; says = g.leads })

-- One that doesn't.
outside_goes : (format : PixelFormat) (coloured : Bool) (carried : Carried) (w h left : ℕ) (part : Part) (bs : List ℕ) → colour_len format coloured + 2 ≡ length bs → is_within (subrect_in format coloured carried bs).area w h ≡ false
    → Goes (tile_rest format w h carried (Subrects coloured (suc left)) part) bs (Faulty SubrectOutside)
outside_goes format coloured carried w h left part bs e out =
    let s : Subrect = subrect_in format coloured carried bs in
    let one : Reading Subrect = hextile_subrect format coloured (unwrap_or carried.foreground 0) w h in
    let first : Subrect → Reading (List Subrect) = λ t. times left one >>= λ others. Done (t ∷ others) in
    let end : List Subrect → Reading (Tile × Carried) = λ more. Done (Drawn (record { background = part.drawing.background; subrects = part.drawing.subrects ++ more }), carried) in
    let g : Goes one bs (Faulty SubrectOutside) = goes_to one (judged w h s) (Faulty SubrectOutside) bs (subrect_goes format coloured carried w h bs e) (ap (λ b. unless (not b) SubrectOutside (Done s)) out) in
    goes_under (one >>= first) (Faulty SubrectOutside) end bs (goes_under one (Faulty SubrectOutside) first bs g)

pub subrect_leads : (keep : ℕ → ℕ) → (format : PixelFormat) (area : Rect) (coloured : Bool) (carried : Carried) (left : ℕ) (part : Part) (old new : Canvas) (bs : List ℕ) → 0 < left → colour_len format coloured + 2 ≡ length bs
    → is_within (subrect_in format coloured carried bs).area area.w area.h ≡ true
    → LooksLike area.w area.h (part_of area new) (fill (subrect_in format coloured carried bs).area (keep (subrect_in format coloured carried bs).value) (part_of area old))
    → IsDrawn keep area (Subrects coloured left) old part
    → Led keep format area carried carried (Subrects coloured left) (Subrects coloured (left - 1)) bs new part
subrect_leads keep format area coloured carried zero part old new bs some e inside shows before = absurd (omega arith)
subrect_leads keep format area coloured carried (suc left) part old new bs some e inside shows before =
    let s : Subrect = subrect_in format coloured carried bs in
    let one : suc left - 1 ≡ left = omega arith in
    rw one
    (record {
      grown = record { pixels = part.pixels; drawing = with_subrect part.drawing s };
      goes = inside_goes format coloured carried area.w area.h left part bs e inside;
      shows = subrect_drawn keep area.w area.h part.drawing s (part_of area old) (part_of area new) before shows;
    })

pub subrect_fails : (keep : ℕ → ℕ) → (format : PixelFormat) (area : Rect) (coloured : Bool) (carried : Carried) (left : ℕ) (part : Part) (new : Canvas) (bs : List ℕ) → 0 < left → colour_len format coloured + 2 ≡ length bs
    → is_within (subrect_in format coloured carried bs).area area.w area.h ≡ false
    → Led keep format area carried carried (Subrects coloured left) (Failed flaw.SubrectOutside) bs new part
subrect_fails keep format area coloured carried zero part new bs some e out = absurd (omega arith)
subrect_fails keep format area coloured carried (suc left) part new bs some e out =
    record { grown = part; goes = outside_goes format coloured carried area.w area.h left part bs e out; shows = tt }
