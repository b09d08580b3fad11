use Rattle.std.proofs.Common.{rules, length, ◌≡◌, ℕ, ◌+◌, ◌*◌, ◌∷◌, [], ◌++◌, List, refl, ap, sym, subst, ◌∙◌, arith}
use Rattle.std.proofs.lemmas.List.{with_items_is}
use Rattle.std.specs.Int.{from_bool}
use Rattle.std.specs.Option.{option_copied}
use Rattle.std.specs.Vec.{with_items}
use Rattle.hextile_codec.specs.Kept.{AreFormsOf}
use Rattle.raster.specs.Screen.{tile_rect, value_at}
use Rattle.tiles.specs.Grid.{IsTouched}
use Rattle.tiles.specs.Touched.{touches}
use Rattle.painter.specs.Board.{Posted}
use Rattle.painter.specs.Encoded.{AreEncoded}
use Rattle.painter.specs.Kept.{newer}
use Rattle.painter.specs.Patch.{ShowsOver, SizedUpdate, is_bell}
use Rattle.painter.proofs.FormLaws.{forms_at}
use Rattle.painter.proofs.ViewLaws.{stands-push, stands_as}
use Rattle.painter.proofs.board.Board.apply.Goals as goal

pub returns-clause-stands : goal.returns-clause-stands
returns-clause-stands c us stands =
    let old = c.self.inside in
    let new : List ℕ = c.paint_patch.new.colours in
    let rung : ℕ = from_bool (is_bell c.args.patch.now.update) in
    let rows : (with_items old.colours new).items ≡ new = with_items_is old.colours new (omega arith) in
    let told : c.follow.new.self ≡ newer old.text (old.number + 1) (option_copied c.text_bytes.result) =
    c.follow.ensures ∙ ap (λ (n : ℕ). newer old.text n (option_copied c.text_bytes.result)) c.counted-number.ensures.number in
    let Touched : ℕ → Type 0 = λ n. IsTouched (λ t. touches (tile_rect old.grid.width old.grid.height t) c.args.patch.now.update) n old.grid c.touch.new.grid in
    let shows : ShowsOver c.args.patch.now old.colours.items new = subst (λ (cs : List ℕ). ShowsOver c.args.patch.now cs new) c.as_mut_slice.ensures.value c.paint_patch.ensures.shows in
    stands_as _ (us ++ c.args.patch.now.update ∷ []) _ _ _ _ _ c.counted-number.ensures.number refl rows c.counted-number.ensures.bells told
    (stands-push c.args.self.now c.args.patch.now old.width old.height old.number old.bells rung old.colours.items new old.grid c.touch.new.grid old.text (option_copied c.text_bytes.result) old.size c.size_after-self-inside.result old.log c.note.new.log us
    c.self.view_is c.requires.size shows (subst Touched c.counted-number.ensures.number c.touch.ensures) refl c.text_bytes.ensures.text c.size_after-self-inside.ensures.size (c.note.ensures.stands us) stands)

pub invariant_of-self : goal.invariant_of-self
invariant_of-self c =
    let s = c.self.inside in
    let patch : SizedUpdate = c.args.patch.now in
    let encoded = c.renew.new.self in
    let painted : List ℕ = c.paint_patch.new.colours in
    let rows : (with_items s.colours painted).items ≡ painted = with_items_is s.colours painted (omega (arith, c.paint_patch.auto.colours, c.as_mut_slice.ensures.len)) in
    let wide : patch.width ≡ s.width = c.requires.size.0 ∙ ap (λ (b : Posted). b.width) (sym c.self.view_is) in
    let high : patch.height ≡ s.height = c.requires.size.1 ∙ ap (λ (b : Posted). b.height) (sym c.self.view_is) in (
      search rules,
      forms_at patch.width patch.height s.width s.height painted (with_items s.colours painted).items c.paint_patch.new.forms.list.items wide high (sym rows) c.paint_patch.ensures.forms,
      subst (λ colours. AreEncoded encoded.format (value_at s.width colours) (length encoded.bytes.items) encoded.bytes.items encoded.list.items) c.as_slice.ensures.value c.renew.ensures,
      search rules,
    )
