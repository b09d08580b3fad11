use Rattle.std.proofs.Common.{◌≡◌, ◌∙◌, ℕ, ◌+◌, ◌/◌, ◌%◌, refl, sym, ap}
use Rattle.raster.specs.declared.rect.Rect.{Rect}
use Rattle.raster.specs.Screen.{is_within, fill, part_of}
use Rattle.hextile_codec.specs.Ahead.{place_in}
use Rattle.hextile_codec.proofs.TileDrawn.{lies_within, moved_within, fill_keeps, fill_in_tile}
use Rattle.hextile_codec.proofs.subrects.draw_subrect.Goals as goal

-- A place by its column, its row, and its width and height less 1.
abbrev place : ℕ → ℕ → ℕ → ℕ → Rect
place x y w h = record { x = x; y = y; w = w + 1; h = h + 1 }

same_place : (position size x y w h : ℕ) → x ≡ position / 16 → y ≡ position % 16 → w ≡ size / 16 → h ≡ size % 16 → place x y w h ≡ place_in position size
same_place position size x y w h column row wide high = rw (column, row, wide, high) refl

pub fill-requires : goal.fill-requires
fill-requires g c =
    let r : Rect = place c.from.result c.from-2.result c.from-3.result c.from-4.result in
    moved_within c.args.area r (g.C.Canvas.width c.args.canvas.now) (g.C.Canvas.height c.args.canvas.now) c.requires.tile
    (lies_within r c.args.area.w c.args.area.h (sym c.within.ensures ∙ c.if-not-within.false))

pub returns-clause-canvas : goal.returns-clause-canvas
returns-clause-canvas g c =
    let r : Rect = place c.from.result c.from-2.result c.from-3.result c.from-4.result in
    record {
      width = c.fill.ensures.width;
      height = c.fill.ensures.height;
      keeps =
          fill_keeps c.args.area r (g.C.Canvas.keeps c.args.value) (g.C.Canvas.width c.args.canvas.now) (g.C.Canvas.height c.args.canvas.now) (g.C.Canvas.shows c.args.canvas.now) (g.C.Canvas.shows c.fill.new.self)
          (lies_within r c.args.area.w c.args.area.h (sym c.within.ensures ∙ c.if-not-within.false)) c.fill.ensures.shows;
    }

pub returns-clause-inside : goal.returns-clause-inside
returns-clause-inside g c =
    sym c.if-not-within.false
    ∙ (c.within.ensures
    ∙ ap (λ r. is_within r c.args.area.w c.args.area.h) (same_place c.args.position c.args.size c.from.result c.from-2.result c.from-3.result c.from-4.result c.from.ensures c.from-2.ensures c.from-3.ensures c.from-4.ensures))

pub returns-clause-drawn : goal.returns-clause-drawn
returns-clause-drawn g c _ x y lx ly =
    let before = g.C.Canvas.shows c.args.canvas.now in
    let r : Rect = place c.from.result c.from-2.result c.from-3.result c.from-4.result in
    fill_in_tile c.args.area r (g.C.Canvas.keeps c.args.value) (g.C.Canvas.width c.args.canvas.now) (g.C.Canvas.height c.args.canvas.now) before (g.C.Canvas.shows c.fill.new.self) c.requires.tile c.fill.ensures.shows x y lx ly
    ∙ ap (λ q. fill q (g.C.Canvas.keeps c.args.value) (part_of c.args.area before) x y) (same_place c.args.position c.args.size c.from.result c.from-2.result c.from-3.result c.from-4.result c.from.ensures c.from-2.ensures c.from-3.ensures c.from-4.ensures)

pub returns-then-not-within-clause-inside : goal.returns-then-not-within-clause-inside
returns-then-not-within-clause-inside g c =
    sym c.if-not-within.true
    ∙ (c.within.ensures
    ∙ ap (λ r. is_within r c.args.area.w c.args.area.h) (same_place c.args.position c.args.size c.from.result c.from-2.result c.from-3.result c.from-4.result c.from.ensures c.from-2.ensures c.from-3.ensures c.from-4.ensures))
