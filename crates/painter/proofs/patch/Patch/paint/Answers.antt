use Rattle.std.proofs.Common.{◌≡◌, ℕ, List, map, ◌++◌, ap, sym, subst, ◌∙◌, arith}
use Rattle.raster.specs.Screen.{Canvas, LooksLike, value_at}
use Rattle.raster.specs.Update.{Paint, after_paints, paints_of}
use Rattle.copy_log.specs.Notes.{paint_of}
use Rattle.painter.specs.Copies.{AreCopies}
use Rattle.painter.specs.Patch.{AreTiles, AreTouchedTiles, SizedUpdate, tile_paints}
use Rattle.painter.proofs.CopyLaws.{after_both, fit_as_paints}
use Rattle.painter.proofs.FormLaws.{paints_are}
use Rattle.painter.proofs.PatchLaws.{looks_after_all, tiles_fit}
use Rattle.painter.proofs.patch.Patch.paint.Goals as goal

pub returns : goal.returns
returns c =
    let now : SizedUpdate = c.args.self.now in
    let w : ℕ = c.self.inside.width in
    let h : ℕ = c.self.inside.height in
    let numbers : List ℕ = c.tiles.result.0.now in
    let colours : List ℕ = c.tiles.result.1.now in
    let copies = c.copies.result.now in
    let first : List Paint = map paint_of copies in
    let puts : List Paint = tile_paints w h numbers colours in
    let all : AreTouchedTiles w h numbers colours = subst (λ (v : SizedUpdate). AreTouchedTiles v.width v.height numbers colours) (sym c.self.view_is) c.tiles.ensures.tiles in
    let are : AreTiles w h numbers colours = all.tiles in
    let fit : AreCopies w h copies = subst (λ (v : SizedUpdate). AreCopies v.width v.height copies) (sym c.self.view_is) c.copies.ensures.fit in
    let paints : first ++ puts ≡ paints_of now.update =
    subst (λ (v : SizedUpdate). first ++ tile_paints v.width v.height numbers colours ≡ paints_of now.update) (sym c.self.view_is) (paints_are now copies numbers colours c.copies.ensures.paints c.tiles.ensures.paints) in
    let Shows : SizedUpdate → Type 0 =
    λ v. (before : Canvas) → LooksLike v.width v.height (value_at v.width c.args.colours.now) before → LooksLike v.width v.height (value_at v.width c.put_tiles.new.screen) (after_paints before (paints_of now.update)) in
    subst Shows c.self.view_is
    (λ before alike x y lx ly.
    c.put_tiles.ensures x y lx ly
    ∙ (looks_after_all w h (value_at w c.copy_rects.new.screen) (after_paints before first) puts (tiles_fit w h numbers colours (omega (arith, c.self.invariant.0.wide.0)) are)
    (λ i j li lj. c.copy_rects.ensures i j li lj ∙ looks_after_all w h (value_at w c.args.colours.now) before first (fit_as_paints w h copies fit.fit) alike i j li lj) x y lx ly
    ∙ (ap (λ (s : Canvas). s x y) (sym (after_both before first puts)) ∙ ap (λ (ps : List Paint). after_paints before ps x y) paints)))
