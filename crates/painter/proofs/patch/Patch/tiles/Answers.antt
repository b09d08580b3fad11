use Rattle.std.proofs.Common.{◌≡◌, ℕ, sym, subst, ◌∙◌}
use Rattle.raster.specs.Update.{paints_of}
use Rattle.painter.specs.Copies.{other_paints}
use Rattle.painter.specs.Patch.{IsFor, SizedUpdate, tile_paints, update_of}
use Rattle.painter.specs.declared.patch.Change.{Change}
use Rattle.painter.proofs.CopyLaws.{puts_behind}
use Rattle.painter.proofs.PatchLaws.{tiles_lead_none}
use Rattle.painter.proofs.patch.Patch.tiles.Goals as goal

pub returns-in-Tiles-clause-paints : goal.returns-in-Tiles-clause-paints
returns-in-Tiles-clause-paints c =
    let w : ℕ = c.self.inside.width in
    let h : ℕ = c.self.inside.height in
    subst (λ (u : SizedUpdate). tile_paints u.width u.height c.as_slice.result.now c.as_slice-in-Tiles.result.now ≡ other_paints (paints_of u.update)) c.self.view_is
    ((λ i. tile_paints w h (c.as_slice.ensures.value i) (c.as_slice-in-Tiles.ensures.value i))
    ∙ subst (λ (change : Change). IsFor w h change → tile_paints w h c.in-Tiles.numbers.items c.in-Tiles.colours.items ≡ other_paints (paints_of (update_of w h change))) (sym c.in-Tiles.is)
    (λ is. sym (puts_behind _ _ is.1.few (tiles_lead_none w h _ _))) c.self.invariant.1)
