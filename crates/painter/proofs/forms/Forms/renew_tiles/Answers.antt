use Rattle.std.proofs.Common.{◌≡◌, ℕ, ◌+◌, ◌*◌, List, ◌∷◌, Option, take, drop, get_or, ap, sym, subst, ◌∙◌, arith}
use Rattle.std.specs.Prelude.{IfSome}
use Rattle.std.proofs.lemmas.List.{drop_more}
use Rattle.raster.specs.declared.rect.Rect.{Rect}
use Rattle.raster.specs.Screen.{Canvas, tile_rect, value_at}
use Rattle.hextile_codec.specs.declared.kept.TileForm.{TileForm}
use Rattle.hextile_codec.specs.Kept.{FormStands}
use Rattle.painter.specs.Forms.{AreFormsBut}
use Rattle.painter.specs.Patch.{AreTiles, ShowsTiles, tile_area}
use Rattle.painter.proofs.FormLaws.{Stands, none_stands, one_renewed, stands_shown}
use Rattle.painter.proofs.PatchLaws.{others}
use Rattle.painter.proofs.forms.Forms.renew_tiles.Goals.{then-keeps, else-keeps}
use Rattle.painter.proofs.forms.Forms.renew_tiles.Goals as goal

pub loop-number-preserved : goal.loop-number-preserved
loop-number-preserved c =
    let w : ℕ = c.args.width in
    let h : ℕ = c.args.height in
    let i : ℕ = c.loop-number.number-index in
    let t : ℕ = get_or c.args.numbers.now i 0 in
    let rest : List ℕ = drop (i + 1) c.args.numbers.now in
    let left : List ℕ = c.loop-number.left.now in
    let r : Rect = tile_rect w h t in
    let is : drop i c.args.numbers.now ≡ t ∷ rest = drop_more c.args.numbers.now i 0 c.loop-number-test.true in
    let are : AreTiles w h (t ∷ rest) left = subst (λ (ks : List ℕ). AreTiles w h ks left) is c.loop-number.invariant.tiles in
    let area : c.tile_rect-area.result.w * c.tile_rect-area.result.h ≡ tile_area w h t = ap (λ (r : Rect). r.w * r.h) c.tile_rect-area.ensures in
    let front : c.split_at.result.0.now ≡ take (tile_area w h t) left = c.split_at.ensures.front ∙ ap (λ n. take n left) area in
    let back : c.split_at.result.1.now ≡ drop (tile_area w h t) left = c.split_at.ensures.back ∙ ap (λ n. drop n left) area in
    let Of : Rect → List ℕ → Option TileForm → Type 0 = λ r cs form. IfSome form (λ f. FormStands f r.w r.h (value_at r.w cs)) in
    let shown : (screen : Canvas) → ShowsTiles w h c.args.numbers.now c.args.colours.now screen → ShowsTiles w h (t ∷ rest) left screen =
    (λ screen shows. subst (λ (ks : List ℕ). ShowsTiles w h ks left screen) is (c.loop-number.invariant.shows screen shows)) in
    let stands : (screen : Canvas) → ShowsTiles w h (t ∷ rest) left screen → Stands w h screen t c.if-keeps.form =
    (λ screen shows.
    elim c.if-keeps.branch [
      | then-keeps b ↦
          subst (λ (form : Option TileForm). Stands w h screen t form) (sym b.form-is)
          (stands_shown w h t (take (tile_area w h t) left) screen b.form_of_colours-form.result (omega (arith, c.requires.size.wide.0)) (are.there 0 t (omega arith)) shows.0
          (subst (λ (cs : List ℕ). Of r cs b.form_of_colours-form.result) front
          (subst (λ (a : Rect). Of a c.split_at.result.0.now b.form_of_colours-form.result) c.tile_rect-area.ensures b.form_of_colours-form.ensures)))
      | else-keeps b ↦ none_stands w h t screen c.if-keeps.form b.form-is
    ]) in
    record {
      tiles = subst (λ (cs : List ℕ). AreTiles w h rest cs) (sym back) (others w h t rest left are);
      shows = λ screen shows. subst (λ (cs : List ℕ). ShowsTiles w h rest cs screen) (sym back) (shown screen shows).1;
      stand = λ screen shows kept.
          one_renewed w h t screen rest c.loop-number.self.list.items c.put.new.self.list.items c.put.ensures.len
          (λ there. subst (λ (form : Option TileForm). Stands w h screen t form) (sym (c.put.ensures.here there)) (stands screen (shown screen shows)))
          c.put.ensures.others
          (subst (λ (ks : List ℕ). AreFormsBut ks w h screen c.loop-number.self.list.items) is (c.loop-number.invariant.stand screen shows kept));
    }
