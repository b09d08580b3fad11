use Rattle.std.proofs.Common.{rules, ◌≡◌, ℕ, Bool, List, Option, take, ap, sym, subst, ◌∙◌, arith}
use Rattle.std.proofs.lemmas.List.{with_items_is}
use Rattle.std.specs.Vec.{with_items}
use Rattle.hextile_codec.specs.declared.kept.TileForm.{TileForm}
use Rattle.hextile_codec.specs.Kept.{AreFormsOf}
use Rattle.raster.specs.Screen.{tile_count, value_at}
use Rattle.tiles.specs.Grid.{Stamps, is_lacked}
use Rattle.copy_log.specs.Notes.{LogStands}
use Rattle.painter.specs.Board.{BoardStands, Posted}
use Rattle.painter.specs.Forms.{TookForms}
use Rattle.painter.specs.Newer.{TookTiles}
use Rattle.painter.proofs.FormLaws.{forms_at}
use Rattle.painter.proofs.TakenOver.{board_taken_over}
use Rattle.painter.proofs.board.Board.take_over.Goals as goal

pub returns-clause-stands : goal.returns-clause-stands
returns-clause-stands c us stood stands =
    let s = c.self.inside in
    let n = c.newer.inside in
    let behind : Posted = record { width = s.width; height = s.height; number = s.number; size = s.size; colours = s.colours.items; grid = s.grid; bells = s.bells; text = s.text; log = s.log } in
    let ahead : Posted = record { width = n.width; height = n.height; number = n.number; size = n.size; colours = n.colours.items; grid = n.grid; bells = n.bells; text = n.text; log = n.log } in
    let mid : List ℕ = c.take_lacked.new.colours in
    let wide : n.width ≡ s.width = ap (λ (b : Posted). b.width) c.newer.view_is ∙ (c.requires.width ∙ ap (λ (b : Posted). b.width) (sym c.self.view_is)) in
    let high : n.height ≡ s.height = ap (λ (b : Posted). b.height) c.newer.view_is ∙ (c.requires.height ∙ ap (λ (b : Posted). b.height) (sym c.self.view_is)) in
    let Took : Posted → List ℕ → Type 0 = λ b l. TookTiles b.grid.width b.grid.height (is_lacked s.grid b.grid s.number) b.colours l mid in
    let took : Took ahead s.colours.items =
    subst (λ b. Took b s.colours.items) (sym c.newer.view_is) (subst (λ l. Took c.args.newer.now l) c.as_mut_slice-colours.ensures.value c.take_lacked.ensures.colours) in
    let was : BoardStands behind (take s.number us) = subst (λ (b : Posted). BoardStands b (take b.number us)) (sym c.self.view_is) stood in
    let is : BoardStands ahead us = subst (λ (b : Posted). BoardStands b us) (sym c.newer.view_is) stands in
    let logged : LogStands s.log (take s.log.number us) = subst (λ k. LogStands s.log (take k us)) (sym c.self.invariant.0.noted) was.log in
    let half : (with_items s.colours mid).items ≡ mid = with_items_is s.colours mid (omega (arith, c.take_lacked.auto.colours, c.as_mut_slice-colours.ensures.len)) in
    let Stands : List ℕ → Stamps → Type 0 = λ cs g. BoardStands (record { width = s.width; height = s.height; number = n.number; size = n.size; colours = cs; grid = g; bells = n.bells; text = c.catch_up.new.self; log = c.catch_up-2.new.self }) us in
    subst (λ (g : Stamps). Stands (with_items s.colours mid).items g) (sym c.copy_from.ensures)
    (subst (λ (cs : List ℕ). Stands cs n.grid) (sym half)
    (board_taken_over behind ahead mid us wide high c.newer.invariant.0.tiles.0 c.newer.invariant.0.tiles.1 c.self.invariant.0.tiles.0 c.self.invariant.0.tiles.1 took
    was is c.catch_up.new.self c.catch_up-2.new.self (c.catch_up-2.ensures.stands us logged is.log) c.catch_up.ensures))

pub invariant_of-self : goal.invariant_of-self
invariant_of-self c =
    let s = c.self.inside in
    let newer : Posted = c.args.newer.now in
    let mid : List ℕ = c.take_lacked.new.colours in
    let half : (with_items s.colours mid).items ≡ mid = with_items_is s.colours mid (omega (arith, c.take_lacked.auto.colours, c.as_mut_slice-colours.ensures.len)) in
    let wide : newer.width ≡ s.width = c.requires.width ∙ ap (λ (b : Posted). b.width) (sym c.self.view_is) in
    let high : newer.height ≡ s.height = c.requires.height ∙ ap (λ (b : Posted). b.height) (sym c.self.view_is) in (
      search rules,
      forms_at newer.width newer.height s.width s.height mid (with_items s.colours mid).items c.take_lacked.new.forms.list.items wide high (sym half) c.take_lacked.ensures.forms,
      search rules,
      search rules,
    )
