use Rattle.std.proofs.Common.{◌≡◌, ℕ, List, map, ◌++◌, Option, subst, arith}
use Rattle.raster.specs.Screen.{Canvas, value_at}
use Rattle.raster.specs.Update.{paints_of}
use Rattle.hextile_codec.specs.declared.kept.TileForm.{TileForm}
use Rattle.hextile_codec.specs.Kept.{AreFormsOf}
use Rattle.copy_log.specs.Notes.{paint_of}
use Rattle.painter.specs.Forms.{AreFormsBut, AreUncopiedForms}
use Rattle.painter.specs.Patch.{ShowsTiles, SizedUpdate, tile_paints}
use Rattle.painter.proofs.FormLaws.{paints_are, patch_shown, stands_longer, untouched_but}
use Rattle.painter.proofs.forms.Forms.renew.Goals as goal

pub returns : goal.returns
returns c =
    let patch : SizedUpdate = c.args.patch.now in
    let numbers : List ℕ = c.tiles.result.0.now in
    let tiles : List ℕ = c.tiles.result.1.now in
    let copies = c.copies.result.now in
    let screen : Canvas = value_at patch.width c.args.colours.now in
    let old : List (Option TileForm) = c.args.self.now.list.items in
    let begun : List (Option TileForm) = c.begin.new.self.list.items in
    let mid : List (Option TileForm) = c.renew_copied.new.self.list.items in
    let new : List (Option TileForm) = c.renew_tiles.new.self.list.items in
    let paints : map paint_of copies ++ tile_paints patch.width patch.height numbers tiles ≡ paints_of patch.update = paints_are patch copies numbers tiles c.copies.ensures.paints c.tiles.ensures.paints in
    let were : AreUncopiedForms copies numbers patch.width patch.height screen begun =
    (λ t there lt none uncopied.
    stands_longer patch.width patch.height screen old begun t (c.begin.ensures t)
    (λ was. c.requires.others t was lt (untouched_but patch t copies numbers tiles paints none uncopied))) in
    let Copied : ℕ → ℕ → Type 0 = λ w h. AreUncopiedForms copies numbers w h (value_at w c.args.colours.now) begun → AreFormsBut numbers w h (value_at w c.args.colours.now) mid in
    let copying : Copied patch.width patch.height =
    subst (λ h. Copied patch.width h) c.size-width.ensures.1 (subst (λ w. Copied w c.size-width.result.1) c.size-width.ensures.0 c.renew_copied.ensures) in
    let Renewed : ℕ → ℕ → Type 0 = λ w h. (s : Canvas) → ShowsTiles w h numbers tiles s → AreFormsBut numbers w h s mid → AreFormsOf w h s new in
    let renewed : Renewed patch.width patch.height =
    subst (λ h. Renewed patch.width h) c.size-width.ensures.1 (subst (λ w. Renewed w c.size-width.result.1) c.size-width.ensures.0 c.renew_tiles.ensures) in
    renewed screen (patch_shown patch c.args.colours.now copies numbers tiles (omega (arith, c.requires.size.wide.0)) paints c.tiles.ensures.tiles c.requires.shown) (copying were)
