use Rattle.std.proofs.Common.{◌≡◌, ℕ, ◌+◌, ◌∷◌, [], ◌++◌, List, refl, ap, subst, sym, ◌∙◌}
use Rattle.std.specs.List.{flat_map}
use Rattle.std.proofs.lemmas.List.{append-nil}
use Rattle.std.proofs.lemmas.List.Concat.{flat_map-append}
use Rattle.raster.specs.declared.rect.Rect.{Rect}
use Rattle.raster.specs.Picture.{shown}
use Rattle.raster.specs.Screen.{tile_rect}
use Rattle.painter.specs.Painter.{Painting, colours_in, touched_below, worked}
use Rattle.painter.proofs.TilePuts.{touched_push, touched_skip}
use Rattle.painter.proofs.painter.Painter.touched_tiles.Goals as goal
use Rattle.painter.proofs.painter.Painter.touched_tiles.Goals.{then-is_touched+in_ok-push+in_ok-add_colours, else-is_touched}

pub loop-t-preserved : goal.loop-t-preserved
loop-t-preserved c =
    let now : Painting = c.args.self.now in
    let t : ℕ = c.loop-t.t in
    let below : List ℕ = touched_below now t in
    let tile : ℕ → List ℕ = λ k. colours_in (worked now) (tile_rect now.width now.height k) in
    elim c.if-is_touched.branch [
      | then-is_touched+in_ok-push+in_ok-add_colours w ↦
          let more : touched_below now (t + 1) ≡ below ++ t ∷ [] = touched_push now t (sym c.is_touched.ensures ∙ w.if-is_touched.true) in
          let area : w.tile_rect.result ≡ tile_rect c.self.inside.raster.width c.self.inside.raster.height t =
          w.tile_rect.ensures ∙ (ap (λ k. tile_rect k c.height-height.result t) c.width-width.ensures ∙ ap (λ k. tile_rect c.self.inside.raster.width k t) c.height-height.ensures) in
          let here : colours_in (shown c.self.inside.raster) w.tile_rect.result ≡ tile t =
          ap (λ (r : Rect). colours_in (shown c.self.inside.raster) r) area
          ∙ subst (λ (v : Painting). colours_in (shown c.self.inside.raster) (tile_rect c.self.inside.raster.width c.self.inside.raster.height t) ≡ colours_in (worked v) (tile_rect v.width v.height t)) c.self.view_is refl in
          record {
            numbers = ap (λ v. v.items) w.numbers-is ∙ (w.in_ok-push.ensures.items ∙ (ap (λ (ts : List ℕ). ts ++ t ∷ []) c.loop-t.invariant.numbers ∙ sym more));
            colours = ap (λ v. v.items) w.colours-is
                ∙ (w.in_ok-add_colours.ensures.ok
                ∙ (ap (λ (cs : List ℕ). cs ++ colours_in (shown c.self.inside.raster) w.tile_rect.result) c.loop-t.invariant.colours
                ∙ (ap (λ (cs : List ℕ). flat_map tile below ++ cs) (here ∙ sym (append-nil (tile t)))
                ∙ (sym (flat_map-append tile below (t ∷ [])) ∙ ap (flat_map tile) (sym more)))));
          }
      | else-is_touched w ↦
          let same : touched_below now (t + 1) ≡ below = touched_skip now t (sym c.is_touched.ensures ∙ w.if-is_touched.false) in
          record {
            numbers = ap (λ v. v.items) w.numbers-is ∙ (c.loop-t.invariant.numbers ∙ sym same);
            colours = ap (λ v. v.items) w.colours-is ∙ (c.loop-t.invariant.colours ∙ ap (flat_map tile) (sym same));
          }
    ]
