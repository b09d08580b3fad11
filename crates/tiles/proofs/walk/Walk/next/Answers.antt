use Rattle.std.proofs.Common.{◌≡◌, ℕ, ◌-◌, ◌*◌, ◌∷◌, Bool, ap, sym, subst, ◌∙◌, arith}
use Rattle.raster.specs.Screen.{common, tile_count, tiles_across}
use Rattle.tiles.specs.declared.walk.Run.{Run}
use Rattle.tiles.specs.Walk.{Walking, IsDone, IsNextRun, runs_left, tiles_rect}
use Rattle.tiles.proofs.WalkLaws.{IsTaken, at_tile, found_there, left_behind, left_none, next_run, none_there}
use Rattle.tiles.proofs.walk.Walk.next.Goals as goal

pub run-requires-clause-there : goal.run-requires-clause-there
run-requires-clause-there g c =
    let walk : Walking = record { width = c.self.inside.width; height = c.self.inside.height; area = c.self.inside.area; next = c.self.inside.next } in
    let high : g.T.DueTiles.height c.args.tiles.now ≡ walk.height = c.requires.1 ∙ ap (λ (v : Walking). v.height) (sym c.self.view_is) in
    let t : IsTaken walk (g.T.DueTiles.due c.args.tiles.now) c.in-Some.first c.in-Some.end =
    found_there walk (g.T.DueTiles.due c.args.tiles.now) c.self.inside.met c.tiles_along-across.result (g.T.DueTiles.height c.args.tiles.now) c.in-Some.first c.in-Some.end c.tiles_along-across.ensures high c.self.invariant.3 c.in-Some.ensures.some in
    omega (arith, t.some, t.there)

pub run-requires-clause-count : goal.run-requires-clause-count
run-requires-clause-count g c =
    let walk : Walking = record { width = c.self.inside.width; height = c.self.inside.height; area = c.self.inside.area; next = c.self.inside.next } in
    let high : g.T.DueTiles.height c.args.tiles.now ≡ walk.height = c.requires.1 ∙ ap (λ (v : Walking). v.height) (sym c.self.view_is) in
    let t : IsTaken walk (g.T.DueTiles.due c.args.tiles.now) c.in-Some.first c.in-Some.end =
    found_there walk (g.T.DueTiles.due c.args.tiles.now) c.self.inside.met c.tiles_along-across.result (g.T.DueTiles.height c.args.tiles.now) c.in-Some.first c.in-Some.end c.tiles_along-across.ensures high c.self.invariant.3 c.in-Some.ensures.some in
    omega (arith, t.in_row, t.within, c.self.invariant.0.wide.1)

pub returns-in-None-clause-done : goal.returns-in-None-clause-done
returns-in-None-clause-done g c =
    let due : ℕ → Bool = g.T.DueTiles.due c.args.tiles.now in
    let walk : Walking = record { width = c.self.inside.width; height = c.self.inside.height; area = c.self.inside.area; next = c.self.inside.next } in
    let wide : g.T.DueTiles.width c.args.tiles.now ≡ walk.width = c.requires.0 ∙ ap (λ (v : Walking). v.width) (sym c.self.view_is) in
    let high : g.T.DueTiles.height c.args.tiles.now ≡ walk.height = c.requires.1 ∙ ap (λ (v : Walking). v.height) (sym c.self.view_is) in
    let done : IsDone walk due = none_there walk due c.self.inside.met c.tiles_along-across.result (g.T.DueTiles.width c.args.tiles.now) (g.T.DueTiles.height c.args.tiles.now) c.tiles_along-across.ensures wide high c.self.invariant.3 c.in-None.ensures.none in
    let whole : c.tiles_along-across.result * c.tiles_along.result ≡ tile_count walk.width walk.height = ap (λ (a : ℕ). a * c.tiles_along.result) c.tiles_along-across.ensures ∙ ap (λ (b : ℕ). tiles_across walk.width * b) c.tiles_along.ensures in
    (subst (λ (v : Walking). IsDone v due) c.self.view_is done, λ t from lt. absurd (omega (arith, from, lt, whole)))

pub returns-in-None-clause-left : goal.returns-in-None-clause-left
returns-in-None-clause-left g c =
    let due : ℕ → Bool = g.T.DueTiles.due c.args.tiles.now in
    let walk : Walking = record { width = c.self.inside.width; height = c.self.inside.height; area = c.self.inside.area; next = c.self.inside.next } in
    let wide : g.T.DueTiles.width c.args.tiles.now ≡ walk.width = c.requires.0 ∙ ap (λ (v : Walking). v.width) (sym c.self.view_is) in
    let high : g.T.DueTiles.height c.args.tiles.now ≡ walk.height = c.requires.1 ∙ ap (λ (v : Walking). v.height) (sym c.self.view_is) in
    let done : IsDone walk due = none_there walk due c.self.inside.met c.tiles_along-across.result (g.T.DueTiles.width c.args.tiles.now) (g.T.DueTiles.height c.args.tiles.now) c.tiles_along-across.ensures wide high c.self.invariant.3 c.in-None.ensures.none in
    left_none c.args.self.now due (subst (λ (v : Walking). IsDone v due) c.self.view_is done)

pub returns-in-Some-clause-run : goal.returns-in-Some-clause-run
returns-in-Some-clause-run g c =
    let due : ℕ → Bool = g.T.DueTiles.due c.args.tiles.now in
    let walk : Walking = record { width = c.self.inside.width; height = c.self.inside.height; area = c.self.inside.area; next = c.self.inside.next } in
    let high : g.T.DueTiles.height c.args.tiles.now ≡ walk.height = c.requires.1 ∙ ap (λ (v : Walking). v.height) (sym c.self.view_is) in
    let t : IsTaken walk due c.in-Some.first c.in-Some.end =
    found_there walk due c.self.inside.met c.tiles_along-across.result (g.T.DueTiles.height c.args.tiles.now) c.in-Some.first c.in-Some.end c.tiles_along-across.ensures high c.self.invariant.3 c.in-Some.ensures.some in
    let is : record { first = c.in-Some.first; count = c.in-Some.end - c.in-Some.first; area = common walk.area (tiles_rect walk.width c.in-Some.first (c.in-Some.end - c.in-Some.first)) } ≡ c.run.result = sym c.run.ensures in (
      subst (λ (r : Run). IsNextRun c.args.self.now due r) is (subst (λ (v : Walking). IsNextRun v due (record { first = c.in-Some.first; count = c.in-Some.end - c.in-Some.first; area = common walk.area (tiles_rect walk.width c.in-Some.first (c.in-Some.end - c.in-Some.first)) })) c.self.view_is (next_run walk due c.in-Some.first c.in-Some.end c.self.invariant.1 t)),
      omega (arith, t.some, ap (λ (r : Run). r.first) is, ap (λ (r : Run). r.count) is),
    )

pub returns-in-Some-clause-left : goal.returns-in-Some-clause-left
returns-in-Some-clause-left g c =
    let due : ℕ → Bool = g.T.DueTiles.due c.args.tiles.now in
    let walk : Walking = record { width = c.self.inside.width; height = c.self.inside.height; area = c.self.inside.area; next = c.self.inside.next } in
    let high : g.T.DueTiles.height c.args.tiles.now ≡ walk.height = c.requires.1 ∙ ap (λ (v : Walking). v.height) (sym c.self.view_is) in
    let t : IsTaken walk due c.in-Some.first c.in-Some.end =
    found_there walk due c.self.inside.met c.tiles_along-across.result (g.T.DueTiles.height c.args.tiles.now) c.in-Some.first c.in-Some.end c.tiles_along-across.ensures high c.self.invariant.3 c.in-Some.ensures.some in
    ap (λ (v : Walking). runs_left v due) (sym c.self.view_is)
    ∙ (left_behind walk due c.in-Some.first c.in-Some.end t ∙ ap (λ (r : Run). r.area ∷ runs_left (at_tile walk c.in-Some.end) due) (sym c.run.ensures))
