use Rattle.std.proofs.Common.{◌≡◌, ℕ, ◌+◌, ◌*◌, List, ◌∷◌, get_or, take, drop, rules, ap, sym, subst, ◌∙◌, arith}
use Rattle.std.proofs.lemmas.List.{drop_more}
use Rattle.raster.specs.declared.rect.Rect.{Rect}
use Rattle.raster.specs.Screen.{LooksLike, lay, tile_rect, value_at}
use Rattle.raster.specs.Update.{after_paints}
use Rattle.painter.specs.Patch.{AreTiles, tile_area, tile_paints}
use Rattle.painter.proofs.PatchLaws.{others, put_first}
use Rattle.painter.proofs.patch.put_tiles.Goals as goal

pub loop-number-preserved : goal.loop-number-preserved
loop-number-preserved c =
    let w : ℕ = c.args.width in
    let h : ℕ = c.args.height in
    let i : ℕ = c.loop-number.number-index in
    let t : ℕ = get_or c.args.numbers.now i 0 in
    let ts : List ℕ = drop (i + 1) c.args.numbers.now in
    let left : List ℕ = c.loop-number.left.now in
    let is : drop i c.args.numbers.now ≡ t ∷ ts = drop_more c.args.numbers.now i 0 c.loop-number-test.true in
    let are : AreTiles w h (t ∷ ts) left = subst (λ (ks : List ℕ). AreTiles w h ks left) is c.loop-number.invariant.tiles in
    let area : c.tile_rect-area.result.w * c.tile_rect-area.result.h ≡ tile_area w h t = ap (λ (r : Rect). r.w * r.h) c.tile_rect-area.ensures in
    let front : c.split_at.result.0.now ≡ take (tile_area w h t) left = c.split_at.ensures.front ∙ ap (λ n. take n left) area in
    let back : c.split_at.result.1.now ≡ drop (tile_area w h t) left = c.split_at.ensures.back ∙ ap (λ n. drop n left) area in
    let Shows : Rect → List ℕ → Type 0 = λ r cs. LooksLike w h (value_at w c.put.new.values) (lay r (value_at r.w cs) (value_at w c.loop-number.screen)) in
    let shown : Shows (tile_rect w h t) (take (tile_area w h t) left) = subst (λ (cs : List ℕ). Shows (tile_rect w h t) cs) front (subst (λ (r : Rect). Shows r c.split_at.result.0.now) c.tile_rect-area.ensures c.put.ensures) in
    let next = put_first w h t ts left c.loop-number.screen c.put.new.values (omega (arith, c.requires.size.wide.0)) are shown in
    record {
      rows = search rules;
      tiles = subst (λ (cs : List ℕ). AreTiles w h ts cs) (sym back) (others w h t ts left are);
      shows = λ x y lx ly.
          ap (λ (cs : List ℕ). after_paints (value_at w c.put.new.values) (tile_paints w h ts cs) x y) back
          ∙ (next x y lx ly ∙ (ap (λ (ks : List ℕ). after_paints (value_at w c.loop-number.screen) (tile_paints w h ks left) x y) (sym is) ∙ c.loop-number.invariant.shows x y lx ly));
    }
