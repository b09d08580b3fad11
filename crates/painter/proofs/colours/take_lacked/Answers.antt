use Rattle.std.proofs.Common.{◌≡◌, ℕ, Bool, List, Option, ap, sym, subst, ◌∙◌, arith}
use Rattle.hextile_codec.specs.declared.kept.TileForm.{TileForm}
use Rattle.hextile_codec.specs.Kept.{AreFormsOf}
use Rattle.raster.specs.Screen.{tile_count, value_at}
use Rattle.tiles.specs.Grid.{Stamps, is_lacked}
use Rattle.painter.specs.Board.{Posted}
use Rattle.painter.specs.Forms.{TookForms}
use Rattle.painter.specs.Newer.{TookTiles}
use Rattle.painter.proofs.FormLaws.{forms_caught_up}
use Rattle.painter.proofs.colours.take_lacked.Goals as goal

pub returns-clause-forms : goal.returns-clause-forms
returns-clause-forms c =
    let newer : Posted = c.args.newer.now in
    let n = c.newer.inside in
    let old : List ℕ = c.args.colours.now in
    let mid : List ℕ = c.copy_lacked.new.into in
    let due : ℕ → Bool = is_lacked c.args.grid.now newer.grid c.args.number in
    let old_forms : List (Option TileForm) = c.args.forms.now.list.items in
    let forms : List (Option TileForm) = c.take_lacked.new.self.list.items in
    let wide : newer.grid.width ≡ newer.width = sym (ap (λ (g : Stamps). g.width) c.grid.ensures.value) ∙ c.grid.ensures.size.0 in
    let high : newer.grid.height ≡ newer.height = sym (ap (λ (g : Stamps). g.height) c.grid.ensures.value) ∙ c.grid.ensures.size.1 in
    let Took : Stamps → List ℕ → Type 0 = λ g l. TookTiles g.width g.height (is_lacked c.args.grid.now g c.args.number) l old mid in
    let took : Took newer.grid newer.colours = subst (λ g. Took g newer.colours) c.grid.ensures.value (subst (λ l. Took c.grid.result.now l) c.colours.ensures.value c.copy_lacked.ensures) in
    let took_all : TookTiles newer.width newer.height due newer.colours old mid =
    subst (λ h. TookTiles newer.width h due newer.colours old mid) high (subst (λ w. TookTiles w newer.grid.height due newer.colours old mid) wide took) in
    let lacked = c.new-lacked.result in
    let same_due : is_lacked lacked.grid.now lacked.newer.now lacked.number ≡ due = (λ i. is_lacked (c.new-lacked.ensures.0 i) ((c.new-lacked.ensures.1 ∙ c.grid-2.ensures.value) i) (c.new-lacked.ensures.2 i)) in
    let Taken : ℕ → ℕ → (ℕ → Bool) → Type 0 = λ w h d. TookForms (tile_count w h) d n.forms.list.items old_forms forms in
    let taken : Taken newer.width newer.height due =
    subst (λ d. Taken newer.width newer.height d) same_due
    (subst (λ h. Taken newer.width h (is_lacked lacked.grid.now lacked.newer.now lacked.number)) c.size-width.ensures.1
    (subst (λ w. Taken w c.size-width.result.1 (is_lacked lacked.grid.now lacked.newer.now lacked.number)) c.size-width.ensures.0 c.take_lacked.ensures)) in
    let Ahead : Posted → Type 0 = λ b. AreFormsOf b.width b.height (value_at b.width b.colours) n.forms.list.items in
    forms_caught_up newer.width newer.height due newer.colours old mid n.forms.list.items old_forms forms
    (omega (arith, c.newer.invariant.0.size.wide.0, ap (λ (b : Posted). b.width) c.newer.view_is)) took_all taken (subst Ahead c.newer.view_is c.newer.invariant.1) c.requires.forms
