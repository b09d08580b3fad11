use Rattle.std.proofs.Common.{◌≡◌, ℕ, Bool, List, map, ◌++◌, ap, sym, subst, ◌∙◌}
use Rattle.std.specs.List.{list_any}
use Rattle.std.specs.Prelude.{◌||◌}
use Rattle.std.proofs.lemmas.List.Folds.{list_any-append}
use Rattle.raster.specs.Screen.{meets, tile_rect}
use Rattle.raster.specs.Update.{Paint, painted, paints_of}
use Rattle.tiles.proofs.GridLaws.{touched_as, touched_both}
use Rattle.tiles.specs.Grid.{IsTouched, Stamps}
use Rattle.tiles.specs.Touched.{touches}
use Rattle.copy_log.specs.Notes.{paint_of}
use Rattle.copy_log.specs.declared.copy_rect.CopyRect.{CopyRect}
use Rattle.painter.specs.Patch.{SizedUpdate, tile_paints}
use Rattle.painter.proofs.CopyLaws.{meets_copies}
use Rattle.painter.proofs.FormLaws.{paints_are}
use Rattle.painter.proofs.PatchLaws.{meets_tiles}
use Rattle.painter.proofs.TouchLaws.{met_by}
use Rattle.painter.proofs.patch.Patch.touch.Goals as goal

pub returns : goal.returns
returns c =
    let now : SizedUpdate = c.args.self.now in
    let w : ℕ = c.self.inside.width in
    let h : ℕ = c.self.inside.height in
    let numbers : List ℕ = c.tiles.result.0.now in
    let colours : List ℕ = c.tiles.result.1.now in
    let copies = c.copies.result.now in
    let first : List Paint = map paint_of copies in
    let puts : List Paint = tile_paints w h numbers colours in
    let grid : Stamps = c.args.grid.now in
    let mid : Stamps = c.touch_copies.new.grid in
    let paints : first ++ puts ≡ paints_of now.update =
    subst (λ (v : SizedUpdate). first ++ tile_paints v.width v.height numbers colours ≡ paints_of now.update) (sym c.self.view_is) (paints_are now copies numbers colours c.copies.ensures.paints c.tiles.ensures.paints) in
    let by_tiles : IsTouched (met_by (tile_rect w h) grid numbers) c.args.n mid c.touch_tiles.new.grid =
    subst (λ k. IsTouched (λ t. list_any (λ i. meets (tile_rect w h i) (tile_rect grid.width k t)) numbers) c.args.n mid c.touch_tiles.new.grid) c.touch_copies.ensures.height
    (subst (λ k. IsTouched (λ t. list_any (λ i. meets (tile_rect w h i) (tile_rect k mid.height t)) numbers) c.args.n mid c.touch_tiles.new.grid) c.touch_copies.ensures.width c.touch_tiles.ensures) in
    touched_as (λ t. met_by (λ (k : CopyRect). k.area) grid copies t || met_by (tile_rect w h) grid numbers t) (λ t. touches (tile_rect grid.width grid.height t) now.update) c.args.n grid c.touch_tiles.new.grid
    (λ t lt.
    let met : Paint → Bool = λ p. meets (painted p) (tile_rect grid.width grid.height t) in
    sym
    (ap (list_any met) (sym paints)
    ∙ (list_any-append met first puts
    ∙ (ap (λ b. b || list_any met puts) (meets_copies (tile_rect grid.width grid.height t) copies)
    ∙ ap (λ b. met_by (λ (k : CopyRect). k.area) grid copies t || b) (meets_tiles w h (tile_rect grid.width grid.height t) numbers colours)))))
    (touched_both (met_by (λ (k : CopyRect). k.area) grid copies) (met_by (tile_rect w h) grid numbers) c.args.n grid mid c.touch_tiles.new.grid c.touch_copies.ensures by_tiles)
