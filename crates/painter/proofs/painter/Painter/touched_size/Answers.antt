use Rattle.std.proofs.Common.{◌≡◌, ℕ, ◌+◌, ◌*◌, ◌≤◌, ◌∷◌, [], ◌++◌, List, length, length-append, ap, subst, sym, ◌∙◌, arith}
use Rattle.std.specs.List.{sum_by}
use Rattle.std.proofs.lemmas.List.Sums.{sum_by_push}
use Rattle.raster.specs.declared.rect.Rect.{Rect}
use Rattle.painter.specs.Painter.{Painting, touched_below}
use Rattle.painter.specs.Patch.{tile_area}
use Rattle.painter.proofs.TileColours.{area_small}
use Rattle.painter.proofs.TilePuts.{touched_push, touched_skip}
use Rattle.painter.proofs.painter.Painter.touched_size.Goals as goal
use Rattle.painter.proofs.painter.Painter.touched_size.Goals.{then-is_touched, else-is_touched}

pub loop-t-preserved : goal.loop-t-preserved
loop-t-preserved c =
    let now : Painting = c.args.self.now in
    let t : ℕ = c.loop-t.t in
    let below : List ℕ = touched_below now t in
    let area : ℕ → ℕ = tile_area now.width now.height in
    elim c.if-is_touched.branch [
      | then-is_touched w ↦
          let more : touched_below now (t + 1) ≡ below ++ t ∷ [] = touched_push now t (sym c.is_touched.ensures ∙ w.if-is_touched.true) in
          let count : length (touched_below now (t + 1)) ≡ length below + 1 = ap (λ (ts : List ℕ). length ts) more ∙ length-append below (t ∷ []) in
          let all : sum_by area (touched_below now (t + 1)) ≡ sum_by area below + area t = ap (sum_by area) more ∙ sum_by_push area below t in
          let here : w.tile_rect-area.result.w * w.tile_rect-area.result.h ≡ area t = subst (λ (v : Painting). w.tile_rect-area.result.w * w.tile_rect-area.result.h ≡ tile_area v.width v.height t) c.self.view_is
          (ap (λ (r : Rect). r.w * r.h) w.tile_rect-area.ensures ∙ (ap (λ k. tile_area k c.height-height.result t) c.width-width.ensures ∙ ap (λ k. tile_area c.self.inside.raster.width k t) c.height-height.ensures)) in
          let small : area t ≤ 256 = area_small now.width now.height t in
          record {
            count = omega (arith, w.count-is, count, c.loop-t.invariant.count);
            area = omega (arith, w.positions-is, all, here, c.loop-t.invariant.area);
            few = omega (arith, w.count-is, c.loop-t.invariant.few);
            small = omega (arith, w.positions-is, here, small, c.loop-t.invariant.small);
          }
      | else-is_touched w ↦
          let same : touched_below now (t + 1) ≡ below = touched_skip now t (sym c.is_touched.ensures ∙ w.if-is_touched.false) in
          record {
            count = w.count-is ∙ (c.loop-t.invariant.count ∙ ap (λ (ts : List ℕ). length ts) (sym same));
            area = w.positions-is ∙ (c.loop-t.invariant.area ∙ ap (sum_by area) (sym same));
            few = omega (arith, w.count-is, c.loop-t.invariant.few);
            small = omega (arith, w.positions-is, c.loop-t.invariant.small);
          }
    ]
