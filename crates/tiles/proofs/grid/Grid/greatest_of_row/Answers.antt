use Rattle.std.proofs.Common.{◌≡◌, ℕ, ◌+◌, ◌*◌, ◌-◌, ◌<◌, ◌≤◌, ap, subst, sym, arith}
use Rattle.std.specs.Prelude.{slice_index}
use Rattle.std.proofs.lemmas.List.{get_or_read}
use Rattle.raster.specs.Screen.{tiles_across}
use Rattle.tiles.specs.Grid.{Stamps, stamp_at}
use Rattle.tiles.proofs.grid.Grid.greatest_of_row.Goals as goal

pub returns : goal.returns
returns c =
    let row : ℕ = c.args.row in
    let across : ℕ = tiles_across c.self.inside.width in
    let low : row < tiles_across c.self.inside.height = subst (λ (v : Stamps). row < tiles_across v.height) (sym c.self.view_is) c.requires in
    let read : c.index.result.now ≡ slice_index c.self.inside.greatest.items row = get_or_read c.self.inside.greatest.items _ _ (omega (arith, c.self.invariant.2, low)) c.index.ensures 0 in
    subst (λ (v : Stamps). (t : ℕ) → row * tiles_across v.width ≤ t → t < row * tiles_across v.width + tiles_across v.width → stamp_at v t ≤ c.index.result.now) c.self.view_is
    (λ t from to. (let place : row * across + (t - row * across) ≡ t = omega arith in omega (arith, ap (slice_index c.self.inside.stamps.items) place, read, c.self.invariant.3 (t - row * across) row (omega arith) low)))
