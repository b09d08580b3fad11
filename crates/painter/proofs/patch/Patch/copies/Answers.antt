use Rattle.std.proofs.Common.{◌≡◌, ℕ, map, ap, sym, subst, ◌∙◌}
use Rattle.raster.specs.Update.{paints_of}
use Rattle.copy_log.specs.Notes.{paint_of}
use Rattle.painter.specs.Copies.{leading_copies}
use Rattle.painter.specs.Patch.{IsFor, SizedUpdate, update_of}
use Rattle.painter.specs.declared.patch.Change.{Change}
use Rattle.painter.proofs.CopyLaws.{copies_lead}
use Rattle.painter.proofs.PatchLaws.{tiles_lead_none}
use Rattle.painter.proofs.patch.Patch.copies.Goals as goal

pub returns-in-Tiles-clause-paints : goal.returns-in-Tiles-clause-paints
returns-in-Tiles-clause-paints c =
    let w : ℕ = c.self.inside.width in
    let h : ℕ = c.self.inside.height in
    ap (map paint_of) c.as_slice.ensures.value
    ∙ (subst (λ (change : Change). IsFor w h change → map paint_of c.in-Tiles.copies.items ≡ leading_copies (paints_of (update_of w h change))) (sym c.in-Tiles.is)
    (λ is. sym (copies_lead c.in-Tiles.copies.items _ is.1.few (tiles_lead_none w h _ _))) c.self.invariant.1
    ∙ ap (λ (u : SizedUpdate). leading_copies (paints_of u.update)) c.self.view_is)
