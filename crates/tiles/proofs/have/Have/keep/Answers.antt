use Rattle.std.proofs.Common.{◌≡◌, ℕ, ◌<◌, ◌∷◌, Bool, List, Option, Some, ap, subst, sym, arith}
use Rattle.std.specs.Prelude.{if◌then◌else◌}
use Rattle.std.proofs.lemmas.List.{with_items_is}
use Rattle.std.specs.Vec.{with_items}
use Rattle.raster.specs.Screen.{common, lies_in, tile_count, tile_rect, tiles_across}
use Rattle.tiles.specs.Have.{SentTiles, HaveStands}
use Rattle.raster.specs.declared.size.Size.{Size}
use Rattle.tiles.specs.Touched.{Answered, known_part, last_sent}
use Rattle.tiles.proofs.Marks.{IsFilled, IsMarked, marked_by_rect}
use Rattle.tiles.proofs.HaveLaws.{stands_marked}
use Rattle.tiles.proofs.have.Have.keep.Goals as goal

pub returns-clause-stands : goal.returns-clause-stands
returns-clause-stands c es told stands =
    let w : ℕ = c.self.inside.width in
    let h : ℕ = c.self.inside.height in
    let was : List (Option ℕ) = c.self.inside.sent.items in
    let new : List (Option ℕ) = c.mark.new.sent in
    let passes : ℕ → Bool = λ t. lies_in (common (tile_rect w h t) (known_part c.args.told)) c.args.area.now in
    let wide : 0 < w = omega (arith, c.self.invariant.0.wide.0) in
    let rows : (with_items c.self.inside.sent new).items ≡ new = with_items_is c.self.inside.sent new (omega (arith, c.as_mut_slice.ensures.len)) in
    let filled : IsFilled (tiles_across w) (tiles_across h) c.tiles_inside-tiles.result (Some c.args.number) was new =
    subst (λ (xs : List (Option ℕ)). IsFilled (tiles_across w) (tiles_across h) c.tiles_inside-tiles.result (Some c.args.number) xs new) c.as_mut_slice.ensures.value c.mark.ensures in
    let marked : IsMarked passes (Some c.args.number) (tile_count w h) was new = marked_by_rect w h c.tiles_inside-tiles.result passes (Some c.args.number) was new wide filled c.tiles_inside-tiles.ensures.inside in
    let before : HaveStands (record { width = w; height = h; sent = was }) es = subst (λ (v : SentTiles). HaveStands v es) (sym c.self.view_is) stands in
    subst (λ (xs : List (Option ℕ)). HaveStands (record { width = w; height = h; sent = xs }) (Answered c.args.area.now c.args.number ∷ es)) (sym rows)
    (stands_marked passes (Some c.args.number) (record { width = w; height = h; sent = was }) new es (Answered c.args.area.now c.args.number ∷ es) marked (λ t. ap (λ (o : Option Size). if lies_in (common (tile_rect w h t) (known_part o)) c.args.area.now then Some c.args.number else last_sent (tile_rect w h t) es) told) before)
