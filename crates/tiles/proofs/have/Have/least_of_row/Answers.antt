use Rattle.std.proofs.Common.{◌≡◌, ℕ, ◌+◌, ◌*◌, ◌-◌, ◌<◌, ◌≤◌, Option, None, ap, subst, sym, ◌∙◌, arith}
use Rattle.std.specs.Prelude.{unwrap_or}
use Rattle.std.proofs.lemmas.Option.{slice_get-get_or}
use Rattle.raster.specs.Screen.{tiles_across}
use Rattle.tiles.specs.Have.{AtMost, SentTiles, entry, sent_at}
use Rattle.tiles.proofs.have.Have.least_of_row.Goals as goal

pub returns : goal.returns
returns c =
    let row : ℕ = c.args.row in
    let across : ℕ = tiles_across c.self.inside.width in
    let low : row < tiles_across c.self.inside.height = subst (λ (v : SentTiles). row < tiles_across v.height) (sym c.self.view_is) c.requires in
    let read : entry c.self.inside.least.items row ≡ c.index.result.now = ap (λ o. unwrap_or o None) (slice_get-get_or c.self.inside.least.items row c.index.result.now (omega (arith, c.self.invariant.2, low))) ∙ sym c.index.ensures in
    subst (λ (v : SentTiles). (t : ℕ) → row * tiles_across v.width ≤ t → t < row * tiles_across v.width + tiles_across v.width → AtMost c.index.result.now (sent_at v t)) c.self.view_is
    (λ t from to. (let place : row * across + (t - row * across) ≡ t = omega arith in
    subst (λ (k : ℕ). AtMost c.index.result.now (entry c.self.inside.sent.items k)) place
    (subst (λ (o : Option ℕ). AtMost o (entry c.self.inside.sent.items (row * across + (t - row * across)))) read (c.self.invariant.3 (t - row * across) row (omega arith) low))))
