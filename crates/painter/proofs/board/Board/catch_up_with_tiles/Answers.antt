use Rattle.std.proofs.Common.{rules, length, ◌≡◌, ℕ, ◌+◌, ◌*◌, ◌∷◌, [], ◌++◌, Bool, List, Option, take, ap, sym, subst, ◌∙◌, refl, arith}
use Rattle.std.proofs.lemmas.List.{with_items_is}
use Rattle.std.specs.Int.{from_bool}
use Rattle.std.specs.Option.{option_copied}
use Rattle.std.specs.Vec.{with_items}
use Rattle.hextile_codec.specs.declared.kept.TileForm.{TileForm}
use Rattle.hextile_codec.specs.Kept.{AreFormsOf}
use Rattle.raster.specs.Screen.{tile_count, tile_rect, value_at}
use Rattle.raster.specs.Update.{paints_of}
use Rattle.tiles.specs.Grid.{IsTouched, is_lacked}
use Rattle.tiles.specs.Touched.{touches}
use Rattle.copy_log.specs.Notes.{LogStands}
use Rattle.painter.specs.Board.{BoardStands, Posted}
use Rattle.painter.specs.Encoded.{AreEncoded}
use Rattle.painter.specs.Forms.{TookForms}
use Rattle.painter.specs.Kept.{newer}
use Rattle.painter.specs.Newer.{TookTiles}
use Rattle.painter.specs.Patch.{ShowsOver, SizedUpdate, is_bell}
use Rattle.painter.proofs.CaughtUp.{board_caught_up}
use Rattle.painter.proofs.CopyLaws.{no_paints}
use Rattle.painter.proofs.FormLaws.{forms_at}
use Rattle.painter.proofs.ViewLaws.{stands_as}
use Rattle.painter.proofs.board.Board.catch_up_with_tiles.Goals as goal

pub invariant_of-source-clause-kept : goal.invariant_of-source-clause-kept
invariant_of-source-clause-kept c =
    let s = c.self.inside in
    let patch : SizedUpdate = c.args.patch.now in
    let painted : List ℕ = c.paint_patch.new.colours in
    let rows : (with_items s.colours painted).items ≡ painted = with_items_is s.colours painted (omega (arith, c.paint_patch.auto.colours, c.take_lacked.auto.colours, c.as_mut_slice-colours.ensures.len)) in
    let wide : patch.width ≡ s.width = c.requires.size.0 ∙ ap (λ (b : Posted). b.width) (sym c.self.view_is) in
    let high : patch.height ≡ s.height = c.requires.size.1 ∙ ap (λ (b : Posted). b.height) (sym c.self.view_is) in
    subst (λ (forms : List (Option TileForm)). AreFormsOf s.width s.height (value_at s.width c.as_slice.result.now) forms) (sym c.as_slice-2.ensures.value)
    (forms_at patch.width patch.height s.width s.height painted c.as_slice.result.now c.paint_patch.new.forms.list.items wide high (sym (c.as_slice.ensures.value ∙ rows)) c.paint_patch.ensures.forms)

pub returns-clause-stands : goal.returns-clause-stands
returns-clause-stands c us stood stands =
    let s = c.self.inside in
    let n = c.newer.inside in
    let patch = c.args.patch.now in
    let behind : Posted = record { width = s.width; height = s.height; number = s.number; size = s.size; colours = s.colours.items; grid = s.grid; bells = s.bells; text = s.text; log = s.log } in
    let ahead : Posted = record { width = n.width; height = n.height; number = n.number; size = n.size; colours = n.colours.items; grid = n.grid; bells = n.bells; text = n.text; log = n.log } in
    let mid : List ℕ = c.take_lacked.new.colours in
    let new : List ℕ = c.paint_patch.new.colours in
    let rung : ℕ = from_bool (is_bell patch.update) in
    let wide : n.width ≡ s.width = ap (λ (b : Posted). b.width) c.newer.view_is ∙ (c.requires.same.width ∙ ap (λ (b : Posted). b.width) (sym c.self.view_is)) in
    let high : n.height ≡ s.height = ap (λ (b : Posted). b.height) c.newer.view_is ∙ (c.requires.same.height ∙ ap (λ (b : Posted). b.height) (sym c.self.view_is)) in
    let size : (patch.width ≡ s.width) × (patch.height ≡ s.height) = (c.requires.size.0 ∙ ap (λ (b : Posted). b.width) (sym c.self.view_is), c.requires.size.1 ∙ ap (λ (b : Posted). b.height) (sym c.self.view_is)) in
    let counted : c.counted-number.result.0 ≡ n.number + 1 = c.counted-number.ensures.number in
    let touched : IsTouched (λ t. touches (tile_rect s.grid.width s.grid.height t) patch.update) (n.number + 1) s.grid c.touch.new.grid =
    subst (λ (k : ℕ). IsTouched (λ t. touches (tile_rect s.grid.width s.grid.height t) patch.update) k s.grid c.touch.new.grid) counted c.touch.ensures in
    let Took : Posted → List ℕ → Type 0 = λ b l. TookTiles b.grid.width b.grid.height (is_lacked c.touch.new.grid b.grid s.number) b.colours l mid in
    let took : Took ahead s.colours.items =
    subst (λ b. Took b s.colours.items) (sym c.newer.view_is) (subst (λ l. Took c.args.newer.now l) c.as_mut_slice-colours.ensures.value c.take_lacked.ensures.colours) in
    let rows : (with_items s.colours new).items ≡ new = with_items_is s.colours new (omega (arith, c.paint_patch.auto.colours, c.take_lacked.auto.colours, c.as_mut_slice-colours.ensures.len)) in
    let shows : ShowsOver patch mid new = c.paint_patch.ensures.shows in
    let was : BoardStands behind (take s.number us) = subst (λ (b : Posted). BoardStands b (take b.number us)) (sym c.self.view_is) stood in
    let is : BoardStands ahead us = subst (λ (b : Posted). BoardStands b us) (sym c.newer.view_is) stands in
    let logged : LogStands s.log (take s.log.number us) = subst (λ k. LogStands s.log (take k us)) (sym c.self.invariant.0.noted) was.log in
    let all = board_caught_up behind ahead patch c.touch.new.grid c.catch_up.new.self c.tiles.result.0.now c.tiles.result.1.now mid new rung c.catch_up-3.new.self (option_copied c.text_bytes.result) c.size_after-self-inside.result c.note.new.log us
    wide high c.newer.invariant.0.tiles.0 c.newer.invariant.0.tiles.1 c.self.invariant.0.tiles.0 c.self.invariant.0.tiles.1 size touched took (c.tiles.ensures.paints ∙ no_paints (paints_of patch.update) c.requires.tiles) shows c.catch_up.ensures c.catch_up-3.ensures refl c.text_bytes.ensures.text c.size_after-self-inside.ensures.size
    (c.note.ensures.stands us (c.catch_up-2.ensures.stands us logged is.log)) was is in
    let told : c.follow.new.self ≡ newer c.catch_up-3.new.self (n.number + 1) (option_copied c.text_bytes.result) =
    c.follow.ensures ∙ ap (λ (k : ℕ). newer c.catch_up-3.new.self k (option_copied c.text_bytes.result)) counted in
    stands_as _ (us ++ patch.update ∷ []) _ _ _ _ _ counted refl rows c.counted-number.ensures.bells told all

pub invariant_of-self : goal.invariant_of-self
invariant_of-self c =
    let s = c.self.inside in
    let patch : SizedUpdate = c.args.patch.now in
    let encoded = c.renew.new.self in
    let painted : List ℕ = c.paint_patch.new.colours in
    let rows : (with_items s.colours painted).items ≡ painted = with_items_is s.colours painted (omega (arith, c.paint_patch.auto.colours, c.take_lacked.auto.colours, c.as_mut_slice-colours.ensures.len)) in
    let wide : patch.width ≡ s.width = c.requires.size.0 ∙ ap (λ (b : Posted). b.width) (sym c.self.view_is) in
    let high : patch.height ≡ s.height = c.requires.size.1 ∙ ap (λ (b : Posted). b.height) (sym c.self.view_is) in (
      search rules,
      forms_at patch.width patch.height s.width s.height painted (with_items s.colours painted).items c.paint_patch.new.forms.list.items wide high (sym rows) c.paint_patch.ensures.forms,
      subst (λ colours. AreEncoded encoded.format (value_at s.width colours) (length encoded.bytes.items) encoded.bytes.items encoded.list.items) c.as_slice.ensures.value c.renew.ensures,
      c.renew-2.ensures,
    )
