use Rattle.std.proofs.Common.{◌≡◌, ℕ, ◌*◌, ◌+◌, ◌<◌, List, subst, sym, arith}
use Rattle.std.specs.Prelude.{slice_index}
use Rattle.std.proofs.lemmas.List.{with_items_is}
use Rattle.std.specs.Vec.{with_items}
use Rattle.raster.specs.Screen.{meets, tile_rect, tiles_across}
use Rattle.raster.proofs.Rows.{IsFilled}
use Rattle.tiles.specs.Grid.{Stamps, IsTouched}
use Rattle.tiles.proofs.GridLaws.{touched_by_rect}
use Rattle.tiles.proofs.grid.Grid.touch.Goals as goal

pub returns : goal.returns
returns c =
    let w : ℕ = c.self.inside.width in
    let h : ℕ = c.self.inside.height in
    let was : List ℕ = c.self.inside.stamps.items in
    let new : List ℕ = c.stamp_tiles.new.stamps in
    let wide : 0 < w = omega (arith, c.self.invariant.0.wide.0) in
    let rows : (with_items c.self.inside.stamps new).items ≡ new = with_items_is c.self.inside.stamps new (omega (arith, c.as_mut_slice.ensures.len)) in
    let filled : IsFilled (tiles_across w) (tiles_across h) c.tiles_met-tiles.result c.args.n (λ i j. slice_index was (j * tiles_across w + i)) (slice_index new) =
    subst (λ (xs : List ℕ). IsFilled (tiles_across w) (tiles_across h) c.tiles_met-tiles.result c.args.n (λ i j. slice_index xs (j * tiles_across w + i)) (slice_index new)) c.as_mut_slice.ensures.value c.stamp_tiles.ensures in
    let touched : IsTouched (λ t. meets c.args.area.now (tile_rect w h t)) c.args.n (record { width = w; height = h; stamps = was }) (record { width = w; height = h; stamps = new }) =
    touched_by_rect w h c.tiles_met-tiles.result (λ t. meets c.args.area.now (tile_rect w h t)) c.args.n was new wide filled c.tiles_met-tiles.ensures.met in
    subst (λ (v : Stamps). IsTouched (λ t. meets c.args.area.now (tile_rect v.width v.height t)) c.args.n v (record { width = w; height = h; stamps = (with_items c.self.inside.stamps new).items })) c.self.view_is
    (subst (λ (xs : List ℕ). IsTouched (λ t. meets c.args.area.now (tile_rect w h t)) c.args.n (record { width = w; height = h; stamps = was }) (record { width = w; height = h; stamps = xs })) (sym rows) touched)
