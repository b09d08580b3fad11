use Rattle.std.proofs.Common.{◌≡◌, ℕ, List, ap, sym, ◌∙◌, subst, arith}
use Rattle.copy_log.specs.Notes.{PassedOn}
use Rattle.raster.specs.Screen.{IsWithin}
use Rattle.tiles.specs.Grid.{Stamps, due_at}
use Rattle.tiles.specs.Walk.{IsDone, IsNextRun}
use Rattle.tiles.proofs.RunTiles.{walk_goes_on}
use Rattle.reflect_core.proofs.FillLaws.{IsFilled, at_tile, cut_of_board, done_of, filled_more, next_of}
use Rattle.reflect_core.specs.Fill.{TookRun}
use Rattle.reflect_core.proofs.cut.Cut.keep.Goals as goal

pub loop-run-preserved : goal.loop-run-preserved
loop-run-preserved c =
    let board = c.args.board.now in
    let have = c.args.have.now in
    let area = c.args.area.now in
    let run = c.in-Some.run' in
    let was = c.loop-run.self in
    let on : IsWithin area have.width have.height = record {
      across = omega (arith, c.requires.within.across, c.requires.screen.0);
      down = omega (arith, c.requires.within.down, c.requires.screen.1);
    } in
    let is : IsNextRun (at_tile have area c.loop-run.walk.next) (due_at board.grid have) run =
    next_of c.loop-run.walk (at_tile have area c.loop-run.walk.next) _ board.grid _ have run c.loop-run.invariant.walk (c.new-tiles.ensures.0 ∙ c.grid.ensures.value) c.new-tiles.ensures.1 c.in-Some.ensures.run.0 in
    let took : TookRun board.colours have run was c.take.new.self = subst (λ (l : List ℕ). TookRun l have run was c.take.new.self) c.colours.ensures.value c.take.ensures in
    record {
      walk = walk_goes_on have.width have.height area c.loop-run.walk c.next.new.self c.loop-run.invariant.walk c.in-Some.ensures.same;
      number = c.take.ensures.number ∙ c.loop-run.invariant.number;
      host_size = c.take.ensures.host_size ∙ c.loop-run.invariant.host_size;
      bells = c.take.ensures.bells ∙ c.loop-run.invariant.bells;
      text = c.take.ensures.text ∙ c.loop-run.invariant.text;
      passed = ap (λ (v : PassedOn). v.copies) c.take.ensures.passed ∙ c.loop-run.invariant.passed;
      filled = subst (λ (n : ℕ). IsFilled board.grid board.colours have area n c.take.new.self) (sym c.in-Some.ensures.run.1) (filled_more board.grid board.colours have area c.loop-run.walk.next run was c.take.new.self on c.loop-run.invariant.filled is took);
      shown = λ shared. let before = sym c.take.ensures.is_shared ∙ shared in c.take.ensures.kept before ∙ c.loop-run.invariant.shown before;
    }

pub returns-clause-cut : goal.returns-clause-cut
returns-clause-cut c us stands =
    let board = c.args.board.now in
    let have = c.args.have.now in
    let area = c.args.area.now in
    let now = c.loop-run.invariant in
    let on : IsWithin area have.width have.height = record {
      across = omega (arith, c.requires.within.across, c.requires.screen.0);
      down = omega (arith, c.requires.within.down, c.requires.screen.1);
    } in
    let wide : board.width ≡ have.width = c.requires.board.0 ∙ sym c.requires.screen.0 in
    let high : board.height ≡ have.height = c.requires.board.1 ∙ sym c.requires.screen.1 in
    let done : IsDone (at_tile have area c.loop-run.walk.next) (due_at board.grid have) =
    done_of c.loop-run.walk (at_tile have area c.loop-run.walk.next) _ board.grid _ have now.walk (c.new-tiles.ensures.0 ∙ c.grid.ensures.value) c.new-tiles.ensures.1 c.in_default.ensures.done.0 in
    cut_of_board board us area have c.loop-run.walk.next c.loop-run.self wide high
    (ap (λ (g : Stamps). g.width) (sym c.grid.ensures.value) ∙ (c.grid.ensures.size.0 ∙ wide)) (ap (λ (g : Stamps). g.height) (sym c.grid.ensures.value) ∙ (c.grid.ensures.size.1 ∙ high))
    on now.number now.host_size now.bells now.text now.passed now.filled done stands
