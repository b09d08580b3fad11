-- How reading goes on from tile to tile. A reader stands at a tile, and its contract speaks of the whole rectangle.
use Rattle.std.proofs.Common.{◌≡◌, ℕ, zero, suc, ◌+◌, ◌-◌, ◌*◌, ◌<◌, ◌≤◌, true, false, List, [], ◌∷◌, ◌++◌, Some, refl, sym, ap, ◌∙◌, append_assoc, arith}
use Rattle.std.specs.Prelude.{nat_lt}
use mathlib.Core.Path.{fun_ext}
use Rattle.std.proofs.lemmas.Bool.{lt-ltb, le-ltb, eqb-true}
use Rattle.std.proofs.lemmas.List.{append-nil}
use Rattle.pixel_format.specs.PixelFormat.{PixelFormat}
use Rattle.byte_reading.specs.Reading.{Reading, Done, ◌>>=◌}
use Rattle.byte_reading.proofs.ReadingLaws.{bind_assoc, bind_done}
use Rattle.raster.specs.declared.rect.Rect.{Rect}
use Rattle.raster.specs.Screen.{Canvas, part_of, tile_count, tile_rect}
use Rattle.raster.specs.Encoding.{Subrect, Carried, nothing_carried, Tile, Pixels, Drawn, tile, tile_shows, tiles_from, hextile}
use Rattle.raster.proofs.Rows.{row_before}
use Rattle.hextile_codec.specs.declared.stage.Stage.{Stage}
use Rattle.hextile_codec.specs.declared.stage.Stage.TheVariants.{Mask, RawPixels, Head, Subrects, Failed}
use Rattle.hextile_codec.specs.Ahead.{Part, Sofar, blank, nothing_read, IsDrawn, is_whole, tile_rest, others_behind, next_form}

-- ---- from one tile to the next

-- The tiles from number k on, after those that are whole.
tiles_ahead : (format : PixelFormat) (w h k : ℕ) (carried : Carried) (tiles : List Tile) (part : Part) (n : ℕ) → n ≡ tile_count w h - k
    → (tiles_from format w h carried k n >>= λ others. Done (tiles ++ others)) ≡ next_form format w h k carried Mask (record { tiles = tiles; part = part })
tiles_ahead format w h k carried tiles part zero e =
    let over : nat_lt k (tile_count w h) ≡ false = le-ltb k (tile_count w h) (omega (arith, e)) in
    rw (over, append-nil tiles) refl
tiles_ahead format w h k carried tiles part (suc n) e =
    let some : nat_lt k (tile_count w h) ≡ true = lt-ltb k (tile_count w h) (omega (arith, e)) in
    let left : tile_count w h - (k + 1) ≡ n = omega (arith, e) in
    let one : Reading (Tile × Carried) = tile format carried (tile_rect w h k).w (tile_rect w h k).h in
    let then_ : Tile × Carried → Reading (List Tile) = λ first. tiles_from format w h first.1 (k + 1) n >>= λ others. Done (first.0 ∷ others) in
    let end : List Tile → Reading (List Tile) = λ others. Done (tiles ++ others) in
    let behind : (first : Tile × Carried) → (tiles_from format w h first.1 (k + 1) n >>= λ others. Done (tiles ++ first.0 ∷ others)) ≡ others_behind format w h k tiles first =
    λ first. ap (λ m. tiles_from format w h first.1 (k + 1) m >>= λ others. Done (tiles ++ first.0 ∷ others)) (sym left) in
    rw some
    (bind_assoc one then_ end
    ∙ ap (λ (f : Tile × Carried → Reading (List Tile)). one >>= f) (fun_ext (λ first. bind_assoc (tiles_from format w h first.1 (k + 1) n) (λ others. Done (first.0 ∷ others)) end ∙ behind first)))

-- After a tile that is whole the next one is read.
pub next_tile : (format : PixelFormat) (w h k : ℕ) (tiles : List Tile) (first : Tile) (carried : Carried) → others_behind format w h k tiles (first, carried) ≡ next_form format w h (k + 1) carried Mask (record { tiles = tiles ++ first ∷ []; part = blank })
next_tile format w h k tiles first carried =
    let n : ℕ = tile_count w h - (k + 1) in
    ap (λ (f : List Tile → Reading (List Tile)). tiles_from format w h carried (k + 1) n >>= f) (fun_ext (λ others. ap (λ (ts : List Tile). Done ts) (sym (append_assoc tiles (first ∷ []) others))))
    ∙ tiles_ahead format w h (k + 1) carried (tiles ++ first ∷ []) blank n refl

-- At first all tiles are read.
pub all_ahead : (format : PixelFormat) (w h : ℕ) (part : Part) → next_form format w h 0 nothing_carried Mask (nothing_read part) ≡ hextile format w h
all_ahead format w h part = sym (tiles_ahead format w h 0 nothing_carried [] part (tile_count w h) (omega arith)) ∙ bind_done (hextile format w h)

pub in_tile : (format : PixelFormat) (w h k : ℕ) (carried : Carried) (stage : Stage) (sofar : Sofar) → k < tile_count w h
    → next_form format w h k carried stage sofar ≡ (tile_rest format (tile_rect w h k).w (tile_rect w h k).h carried stage sofar.part >>= others_behind format w h k sofar.tiles)
in_tile format w h k carried stage sofar lt = let some : nat_lt k (tile_count w h) ≡ true = lt-ltb k (tile_count w h) lt in rw some refl

pub behind_all : (format : PixelFormat) (w h k : ℕ) (carried : Carried) (stage : Stage) (sofar : Sofar) → tile_count w h ≤ k → next_form format w h k carried stage sofar ≡ Done sofar.tiles
behind_all format w h k carried stage sofar le = let over : nat_lt k (tile_count w h) ≡ false = le-ltb k (tile_count w h) le in rw over refl

-- ---- a tile that is whole

pub record WholeTile (keep : ℕ → ℕ) (format : PixelFormat) (area : Rect) (carried : Carried) (stage : Stage) (canvas : Canvas) (part : Part) : Type 0 where
  pub what : Tile
  pub is : tile_rest format area.w area.h carried stage part ≡ Done (what, carried)
  pub shows : (x y : ℕ) → x < area.w → y < area.h → part_of area canvas x y ≡ keep (tile_shows area.w (Some what) x y)

pub whole_tile : (keep : ℕ → ℕ) → (format : PixelFormat) (area : Rect) (carried : Carried) (stage : Stage) (canvas : Canvas) (part : Part) → is_whole area.w area.h stage ≡ true → IsDrawn keep area stage canvas part → WholeTile keep format area carried stage canvas part
whole_tile keep format area carried Mask canvas part e shows = absurd cc
whole_tile keep format area carried (RawPixels count) canvas part e shows =
    let all : count ≡ area.w * area.h = eqb-true count (area.w * area.h) e in
    let none : area.w * area.h - count ≡ 0 = omega (arith, all) in
    record {
      what = Pixels part.pixels;
      is = rw none (ap (λ (vs : List ℕ). Done (Pixels vs, carried)) (append-nil part.pixels));
      shows = λ x y lx ly. shows.1 x y lx ly (let p = row_before area.w x y area.h lx ly in omega (arith, p, all));
    }
whole_tile keep format area carried (Head mask) canvas part e shows = absurd cc
whole_tile keep format area carried (Subrects coloured left) canvas part e shows =
    let none : left ≡ 0 = eqb-true left 0 e in
    record {
      what = Drawn part.drawing;
      is = rw none (ap (λ (ss : List Subrect). Done (Drawn (record { background = part.drawing.background; subrects = ss }), carried)) (append-nil part.drawing.subrects));
      shows = shows;
    }
whole_tile keep format area carried (Failed flaw) canvas part e shows = absurd cc
