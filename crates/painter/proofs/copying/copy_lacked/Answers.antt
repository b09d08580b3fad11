use Rattle.std.proofs.Common.{◌≡◌, ℕ, ◌<◌, Bool, List, sym, subst, arith}
use Rattle.raster.specs.Screen.{LooksLike, lay, part_of, value_at, whole_screen}
use Rattle.tiles.specs.Grid.{is_lacked}
use Rattle.tiles.specs.Walk.{IsDone, IsNextRun, Walking}
use Rattle.tiles.proofs.RunTiles.{walk_goes_on}
use Rattle.painter.proofs.NewerLaws.{HasTaken, all_taken, on_screen, taken_more}
use Rattle.painter.proofs.copying.copy_lacked.Goals as goal

pub loop-run-preserved : goal.loop-run-preserved
loop-run-preserved c =
    let grid = c.args.newer.now in
    let n : ℕ → Bool = is_lacked c.args.grid.now grid c.args.number in
    let run = c.in-Some.run' in
    let from : List ℕ = c.args.from.now in
    let mid : List ℕ = c.loop-run.into in
    let new : List ℕ = c.copy_area.new.into in
    let due : is_lacked c.new-lacked.result.grid.now c.new-lacked.result.newer.now c.new-lacked.result.number ≡ n = (λ i. is_lacked (c.new-lacked.ensures.0 i) (c.new-lacked.ensures.1 i) (c.new-lacked.ensures.2 i)) in
    let is : IsNextRun (on_screen grid c.loop-run.walk.next) n run =
    subst (λ (w : Walking). IsNextRun w n run) c.loop-run.invariant.walk (subst (λ (d : ℕ → Bool). IsNextRun c.loop-run.walk d run) due c.in-Some.ensures.run.0) in
    let some : 0 < grid.width = omega (arith, c.size-width.ensures.screen.wide.0, c.size-width.ensures.value.0) in
    let shows : LooksLike grid.width grid.height (value_at grid.width new) (lay run.area (part_of run.area (value_at grid.width from)) (value_at grid.width mid)) =
    subst (λ h. LooksLike grid.width h (value_at grid.width new) (lay run.area (part_of run.area (value_at grid.width from)) (value_at grid.width mid))) c.size-width.ensures.value.1
    (subst (λ w. LooksLike w c.size-width.result.1 (value_at w new) (lay run.area (part_of run.area (value_at w from)) (value_at w mid))) c.size-width.ensures.value.0 c.copy_area.ensures) in
    record {
      walk = walk_goes_on grid.width grid.height (whole_screen grid.width grid.height) c.loop-run.walk c.next.new.self c.loop-run.invariant.walk c.in-Some.ensures.same;
      count = omega (arith, c.copy_area.auto.into, c.loop-run.invariant.count);
      taken = subst (λ k. HasTaken grid n from c.args.into.now k new) (sym c.in-Some.ensures.run.1)
          (taken_more grid n from c.args.into.now mid new c.loop-run.walk.next run some is shows c.loop-run.invariant.taken);
    }

pub returns : goal.returns
returns c =
    let grid = c.args.newer.now in
    let n : ℕ → Bool = is_lacked c.args.grid.now grid c.args.number in
    let due : is_lacked c.new-lacked.result.grid.now c.new-lacked.result.newer.now c.new-lacked.result.number ≡ n = (λ i. is_lacked (c.new-lacked.ensures.0 i) (c.new-lacked.ensures.1 i) (c.new-lacked.ensures.2 i)) in
    let done : IsDone (on_screen grid c.loop-run.walk.next) n =
    subst (λ (w : Walking). IsDone w n) c.loop-run.invariant.walk (subst (λ (d : ℕ → Bool). IsDone c.loop-run.walk d) due c.in_default.ensures.done.0) in
    let some : 0 < grid.width = omega (arith, c.size-width.ensures.screen.wide.0, c.size-width.ensures.value.0) in
    all_taken grid n c.args.from.now c.args.into.now c.loop-run.into c.loop-run.walk.next some done c.loop-run.invariant.taken
