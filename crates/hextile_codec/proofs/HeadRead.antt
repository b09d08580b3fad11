-- What a mask announces is read. `draw_head` reads colours and a count together.
use Rattle.std.proofs.Common.{◌≡◌, ℕ, Bool, true, false, List, [], ◌∷◌, length, take, drop, Option, refl, arith}
use Rattle.std.specs.Prelude.{if◌then◌else◌, slice_index, unwrap_or}
use Rattle.std.proofs.lemmas.List.{length-drop}
use Rattle.pixel_format.specs.PixelFormat.{PixelFormat}
use Rattle.byte_reading.specs.Reading.{Reading, Done, ◌>>=◌, byte, times, Spells}
use Rattle.raster.proofs.Spellings.{spells_done}
use Rattle.raster.specs.Encoding.{Carried, Tile, Drawn, has_bit, specified, hextile_subrect, drawn_tile}
use Rattle.hextile_codec.specs.declared.stage.Stage.TheVariants.{Head, Subrects}
use Rattle.raster.specs.Reader.{Goes}
use Rattle.hextile_codec.specs.Ahead.{Part, tile_rest, head_len, colour_in, colour_len}
use Rattle.hextile_codec.proofs.Goes.{goes_split, goes_bind, spells_colour}

-- The number of subrectangles, where it is announced.
abbrev pub count_in : Bool → List ℕ → ℕ
count_in any bytes = if any then slice_index bytes 0 else 0

spells_count : (any : Bool) (bs : List ℕ) → length bs ≡ (if any then 1 else 0) → Spells (if any then byte else Done 0) bs (count_in any bs)
spells_count true [] e = absurd (omega (arith, e))
spells_count true (b ∷ []) e = record { whole = refl; says = refl }
spells_count true (b ∷ c ∷ bs) e = absurd (omega (arith, e))
spells_count false [] e = spells_done 0
spells_count false (b ∷ bs) e = absurd (omega (arith, e))

-- The background alone is drawn.
abbrev pub only_background : Option ℕ → Part
only_background background = record { pixels = []; drawing = record { background = unwrap_or background 0; subrects = [] } }

pub head_goes : (format : PixelFormat) (w h mask : ℕ) (carried : Carried) (part : Part) (bs : List ℕ) → length bs ≡ head_len format mask
    → let behind = drop (colour_len format (has_bit mask 1)) bs in
    let last = drop (colour_len format (has_bit mask 2)) behind in
    let background = colour_in format (has_bit mask 1) carried.background bs in
    let foreground = colour_in format (has_bit mask 2) carried.foreground behind in
    Goes (tile_rest format w h carried (Head mask) part) bs
    (tile_rest format w h (record { background = background; foreground = foreground }) (Subrects (has_bit mask 4) (count_in (has_bit mask 3) last)) (only_background background))
head_goes format w h mask carried part bs e =
    let n : ℕ = colour_len format (has_bit mask 1) in
    let m : ℕ = colour_len format (has_bit mask 2) in
    let behind : List ℕ = drop n bs in
    let last : List ℕ = drop m behind in
    let background : Option ℕ = colour_in format (has_bit mask 1) carried.background bs in
    let foreground : Option ℕ = colour_in format (has_bit mask 2) carried.foreground behind in
    let subrects : Option ℕ → Option ℕ → ℕ → Reading (Tile × Carried) =
    λ b f count. times count (hextile_subrect format (has_bit mask 4) (unwrap_or f 0) w h) >>= λ ss. Done (Drawn (record { background = unwrap_or b 0; subrects = ss }), record { background = b; foreground = f }) in
    let counted : Option ℕ → Option ℕ → Reading (Tile × Carried) = λ b f. (if has_bit mask 3 then byte else Done 0) >>= subrects b f in
    let second : Option ℕ → Reading (Tile × Carried) = λ b. specified format (has_bit mask 2) carried.foreground >>= counted b in
    goes_split (drawn_tile format mask carried w h) (second background) (subrects background foreground (count_in (has_bit mask 3) last)) n bs
    (goes_bind (specified format (has_bit mask 1) carried.background) second (take n bs) background (spells_colour format (has_bit mask 1) carried.background bs (omega (arith, e))))
    (goes_split (second background) (counted background foreground) (subrects background foreground (count_in (has_bit mask 3) last)) m behind
    (goes_bind (specified format (has_bit mask 2) carried.foreground) (counted background) (take m behind) foreground (spells_colour format (has_bit mask 2) carried.foreground behind (omega (arith, e, length-drop n bs))))
    (goes_bind (if has_bit mask 3 then byte else Done 0) (subrects background foreground) last (count_in (has_bit mask 3) last) (spells_count (has_bit mask 3) last (omega (arith, e, length-drop n bs, length-drop m behind)))))
