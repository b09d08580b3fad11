use Rattle.std.proofs.Common.{ℕ, ◌<◌, List, All, sym, subst}
use Rattle.copy_log.specs.Notes.{is_among, paints}
use Rattle.copy_log.specs.Passed.{BeginsWith}
use Rattle.raster.specs.Screen.{tile_count}
use Rattle.painter.specs.Patch.{SizedUpdate}
use Rattle.painter.proofs.NoteLaws.{patch_begins}
use Rattle.painter.proofs.patch.Patch.note.Goals as goal

pub note-requires-clause-there : goal.note-requires-clause-there
note-requires-clause-there c =
    let log = c.args.log.now in
    let patch : SizedUpdate = c.args.self.now in
    let numbers : List ℕ = c.tiles.result.0.now in
    subst (λ h. All (λ t. t < tile_count log.width h) numbers) (sym c.requires.screen.1)
    (subst (λ w. All (λ t. t < tile_count w patch.height) numbers) (sym c.requires.screen.0) c.tiles.ensures.tiles.tiles.there)

pub returns-clause-stands : goal.returns-clause-stands
returns-clause-stands c us stands =
    let log = c.args.log.now in
    let patch : SizedUpdate = c.args.self.now in
    let Begins : ℕ → ℕ → Type 0 = λ w h. BeginsWith w h (paints c.copies.result.now) (is_among c.tiles.result.0.now) patch.update in
    c.note.ensures.stands us patch.update stands
    (subst (λ h. Begins log.width h) (sym c.requires.screen.1)
    (subst (λ w. Begins w patch.height) (sym c.requires.screen.0)
    (patch_begins patch c.copies.result.now c.tiles.result.0.now c.tiles.result.1.now c.copies.ensures.paints c.tiles.ensures.paints)))
