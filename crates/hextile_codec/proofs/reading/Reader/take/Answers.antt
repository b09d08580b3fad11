use Rattle.std.proofs.Common.{◌≡◌, ◌∙◌, ◌<◌, take, [], sym, ap, arith}
use Rattle.std.specs.Prelude.{not}
use Rattle.raster.specs.Screen.{tile_count}
use Rattle.hextile_codec.specs.Carried.{carried_by}
use Rattle.hextile_codec.specs.Ahead.{is_failed}
use Rattle.hextile_codec.proofs.Standing.{wanting_lt}
use Rattle.hextile_codec.proofs.Taking.{stays_in_tile, leaves_tile, place_stays, place_moves}
use Rattle.hextile_codec.proofs.TilesShown.{is_tile}
use Rattle.hextile_codec.proofs.reading.Reader.take.Goals as goal

pub draw-drawn-requires-clause-tile : goal.draw-drawn-requires-clause-tile
draw-drawn-requires-clause-tile g c =
    let r = c.self.inside in
    let lt : r.tile < tile_count r.width r.height = wanting_lt r.tile (tile_count r.width r.height) (not (is_failed r.stage)) (rw (← c.self.view_is) at c.requires.wanting) in
    let before : r.tile < r.tiles = omega (arith, lt, c.self.invariant.count) in
    let width = c.requires.width ∙ ap (λ p. p.width) (sym c.self.view_is) in
    let height = c.requires.height ∙ ap (λ p. p.height) (sym c.self.view_is) in
    rw (c.self.invariant.lies before, width, height) (is_tile r.width r.height r.tile c.self.invariant.wide c.self.invariant.high lt)

pub is_whole-requires : goal.is_whole-requires
is_whole-requires g c =
    let r = c.self.inside in
    let lt : r.tile < tile_count r.width r.height = wanting_lt r.tile (tile_count r.width r.height) (not (is_failed r.stage)) (rw (← c.self.view_is) at c.requires.wanting) in
    let t = is_tile r.width r.height r.tile c.self.invariant.wide c.self.invariant.high lt in
    rw (c.self.invariant.lies (omega (arith, lt, c.self.invariant.count))) (t.wide.1, t.high.1)

pub invariant_of-self : goal.invariant_of-self
invariant_of-self g c =
    let r = c.self.inside in
    let lt : r.tile < tile_count r.width r.height = wanting_lt r.tile (tile_count r.width r.height) (not (is_failed r.stage)) (rw (← c.self.view_is) at c.requires.wanting) in
    let before : r.tile < r.tiles = omega (arith, lt, c.self.invariant.count) in
    let none : r.begun.items ≡ [] = rw (← c.self.view_is) at c.requires.fresh in
    let place = rw none at c.self.invariant in
    rw none (place_moves r.format r.width r.height r.tiles r.tile r.area c.tile_rect-self-inside.result r.stage place before (λ _. c.tile_rect-self-inside.ensures))

pub invariant_of-self-else-self : goal.invariant_of-self-else-self
invariant_of-self-else-self g c =
    let r = c.self.inside in
    let lt : r.tile < tile_count r.width r.height = wanting_lt r.tile (tile_count r.width r.height) (not (is_failed r.stage)) (rw (← c.self.view_is) at c.requires.wanting) in
    let before : r.tile < r.tiles = omega (arith, lt, c.self.invariant.count) in
    let none : r.begun.items ≡ [] = rw (← c.self.view_is) at c.requires.fresh in
    let place = rw none at c.self.invariant in
    rw none (place_moves r.format r.width r.height r.tiles r.tile r.area r.area r.stage place before (λ more. absurd (omega (arith, more, c.if-self.false))))

pub invariant_of-self-else-is_whole : goal.invariant_of-self-else-is_whole
invariant_of-self-else-is_whole g c =
    let r = c.self.inside in
    let lt : r.tile < tile_count r.width r.height = wanting_lt r.tile (tile_count r.width r.height) (not (is_failed r.stage)) (rw (← c.self.view_is) at c.requires.wanting) in
    let before : r.tile < r.tiles = omega (arith, lt, c.self.invariant.count) in
    let none : r.begun.items ≡ [] = rw (← c.self.view_is) at c.requires.fresh in
    let place = rw none at c.self.invariant in
    rw none (place_stays r.format r.width r.height r.tiles r.tile r.area r.stage c.draw-drawn.result.stage place before c.draw-drawn.ensures.drawn.later (sym c.is_whole.ensures ∙ c.if-is_whole.false))

pub returns-then-self-clause-drawn : goal.returns-then-self-clause-drawn
returns-then-self-clause-drawn g c sofar stands =
    let r = c.self.inside in
    let lt : r.tile < tile_count r.width r.height = wanting_lt r.tile (tile_count r.width r.height) (not (is_failed r.stage)) (rw (← c.self.view_is) at c.requires.wanting) in
    let before : r.tile < r.tiles = omega (arith, lt, c.self.invariant.count) in
    let none : r.begun.items ≡ [] = rw (← c.self.view_is) at c.requires.fresh in
    let width = c.requires.width ∙ ap (λ p. p.width) (sym c.self.view_is) in
    let height = c.requires.height ∙ ap (λ p. p.height) (sym c.self.view_is) in
    rw (← c.self.view_is)
    (leaves_tile g.C.Canvas.keeps r.format r.width r.height r.tile r.area (carried_by r.carried) (carried_by c.draw-drawn.result.carried) r.stage c.draw-drawn.result.stage r.begun.items (take c.draw-drawn.result.used c.args.bytes.now) (g.C.Canvas.shows c.args.canvas.now) (g.C.Canvas.shows c.draw-drawn.new.canvas) sofar
    lt (c.self.invariant.lies before) none (rw (width, height) at c.draw-drawn.ensures.canvas.keeps) c.draw-drawn.ensures.drawn.leads (sym c.is_whole.ensures ∙ c.if-is_whole.true) (rw (← c.self.view_is) at stands))

pub returns-else-self-clause-drawn : goal.returns-else-self-clause-drawn
returns-else-self-clause-drawn g c sofar stands =
    let r = c.self.inside in
    let lt : r.tile < tile_count r.width r.height = wanting_lt r.tile (tile_count r.width r.height) (not (is_failed r.stage)) (rw (← c.self.view_is) at c.requires.wanting) in
    let before : r.tile < r.tiles = omega (arith, lt, c.self.invariant.count) in
    let none : r.begun.items ≡ [] = rw (← c.self.view_is) at c.requires.fresh in
    let width = c.requires.width ∙ ap (λ p. p.width) (sym c.self.view_is) in
    let height = c.requires.height ∙ ap (λ p. p.height) (sym c.self.view_is) in
    rw (← c.self.view_is)
    (leaves_tile g.C.Canvas.keeps r.format r.width r.height r.tile r.area (carried_by r.carried) (carried_by c.draw-drawn.result.carried) r.stage c.draw-drawn.result.stage r.begun.items (take c.draw-drawn.result.used c.args.bytes.now) (g.C.Canvas.shows c.args.canvas.now) (g.C.Canvas.shows c.draw-drawn.new.canvas) sofar
    lt (c.self.invariant.lies before) none (rw (width, height) at c.draw-drawn.ensures.canvas.keeps) c.draw-drawn.ensures.drawn.leads (sym c.is_whole.ensures ∙ c.if-is_whole.true) (rw (← c.self.view_is) at stands))

pub returns-else-is_whole-clause-drawn : goal.returns-else-is_whole-clause-drawn
returns-else-is_whole-clause-drawn g c sofar stands =
    let r = c.self.inside in
    let lt : r.tile < tile_count r.width r.height = wanting_lt r.tile (tile_count r.width r.height) (not (is_failed r.stage)) (rw (← c.self.view_is) at c.requires.wanting) in
    let before : r.tile < r.tiles = omega (arith, lt, c.self.invariant.count) in
    let none : r.begun.items ≡ [] = rw (← c.self.view_is) at c.requires.fresh in
    let width = c.requires.width ∙ ap (λ p. p.width) (sym c.self.view_is) in
    let height = c.requires.height ∙ ap (λ p. p.height) (sym c.self.view_is) in
    rw (← c.self.view_is)
    (stays_in_tile g.C.Canvas.keeps r.format r.width r.height r.tile r.area (carried_by r.carried) (carried_by c.draw-drawn.result.carried) r.stage c.draw-drawn.result.stage r.begun.items (take c.draw-drawn.result.used c.args.bytes.now) (g.C.Canvas.shows c.args.canvas.now) (g.C.Canvas.shows c.draw-drawn.new.canvas) sofar
    lt (c.self.invariant.lies before) none (rw (width, height) at c.draw-drawn.ensures.canvas.keeps) c.draw-drawn.ensures.drawn.leads (rw (← c.self.view_is) at stands))
