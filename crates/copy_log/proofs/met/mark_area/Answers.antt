use Rattle.std.proofs.Common.{ℕ, sym, subst, arith}
use Rattle.tiles.specs.Walk.{IsDone, IsNextRun, Walking}
use Rattle.tiles.proofs.RunTiles.{walk_at, walk_goes_on}
use Rattle.copy_log.proofs.Marks.{IsMarkedTo, all_tiles, marked_all, marked_more}
use Rattle.copy_log.proofs.met.mark_area.Goals as goal

pub loop-run-preserved : goal.loop-run-preserved
loop-run-preserved c =
    let w : ℕ = c.args.width in
    let h : ℕ = c.args.height in
    let run = c.in-Some.run' in
    let is : IsNextRun (walk_at w h c.args.area.now c.loop-run.walk.next) all_tiles run = subst (λ (v : Walking). IsNextRun v all_tiles run) c.loop-run.invariant.walk c.in-Some.ensures.run.0 in
    record {
      walk = walk_goes_on w h c.args.area.now c.loop-run.walk c.next.new.self c.loop-run.invariant.walk c.in-Some.ensures.same;
      count = omega (arith, c.mark_part.auto.marks, c.loop-run.invariant.count);
      marked = subst (λ k. IsMarkedTo w h c.args.area.now k c.args.marks.now c.mark_part.new.marks) (sym c.in-Some.ensures.run.1)
          (marked_more w h c.args.area.now c.loop-run.walk.next c.args.marks.now c.loop-run.marks c.mark_part.new.marks run is c.loop-run.invariant.marked
          c.mark_part.ensures.inside c.mark_part.ensures.before c.mark_part.ensures.behind);
    }

pub returns : goal.returns
returns c = marked_all c.args.width c.args.height c.args.area.now c.loop-run.walk.next c.args.marks.now c.loop-run.marks (subst (λ (v : Walking). IsDone v all_tiles) c.loop-run.invariant.walk c.in_default.ensures.done.0) c.loop-run.invariant.marked
