use Rattle.std.proofs.Common.{◌≡◌, ℕ, ◌<◌, ◌∷◌, Bool, List, Option, None, false, refl, subst, sym, arith}
use Rattle.std.proofs.lemmas.List.{with_items_is}
use Rattle.std.specs.Vec.{with_items}
use Rattle.raster.specs.Screen.{meets, tile_count, tile_rect, tiles_across}
use Rattle.tiles.specs.Have.{SentTiles, HaveStands}
use Rattle.tiles.specs.Touched.{Requested}
use Rattle.tiles.proofs.Marks.{IsFilled, IsMarked, marked_by_rect}
use Rattle.tiles.proofs.HaveLaws.{stands_marked}
use Rattle.tiles.proofs.have.Have.forget.Goals as goal

pub returns-clause-stands : goal.returns-clause-stands
returns-clause-stands c es stands =
    let w : ℕ = c.self.inside.width in
    let h : ℕ = c.self.inside.height in
    let was : List (Option ℕ) = c.self.inside.sent.items in
    let new : List (Option ℕ) = c.mark.new.sent in
    let passes : ℕ → Bool = λ t. meets c.args.area.now (tile_rect w h t) in
    let wide : 0 < w = omega (arith, c.self.invariant.0.wide.0) in
    let rows : (with_items c.self.inside.sent new).items ≡ new = with_items_is c.self.inside.sent new (omega (arith, c.as_mut_slice.ensures.len)) in
    let filled : IsFilled (tiles_across w) (tiles_across h) c.tiles_met-tiles.result (None) was new =
    subst (λ (xs : List (Option ℕ)). IsFilled (tiles_across w) (tiles_across h) c.tiles_met-tiles.result (None) xs new) c.as_mut_slice.ensures.value c.mark.ensures in
    let marked : IsMarked passes (None) (tile_count w h) was new = marked_by_rect w h c.tiles_met-tiles.result passes (None) was new wide filled c.tiles_met-tiles.ensures.met in
    let before : HaveStands (record { width = w; height = h; sent = was }) es = subst (λ (v : SentTiles). HaveStands v es) (sym c.self.view_is) stands in
    subst (λ (xs : List (Option ℕ)). HaveStands (record { width = w; height = h; sent = xs }) (Requested false c.args.area.now ∷ es)) (sym rows)
    (stands_marked passes (None) (record { width = w; height = h; sent = was }) new es (Requested false c.args.area.now ∷ es) marked (λ t. refl) before)
