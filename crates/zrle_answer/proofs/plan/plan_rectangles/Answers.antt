use Rattle.std.proofs.Common.{ap, ◌∙◌, arith}
use Rattle.reflect_core.specs.Source.{marked}
use Rattle.tiles.specs.Walk.{Walking, runs_left}
use Rattle.update_encoder.proofs.Counts.{all_left}
use Rattle.zrle_answer.proofs.Planning.{part_same, plan_within, plans_all, plans_more, plans_nothing}
use Rattle.zrle_answer.proofs.plan.plan_rectangles.Goals as goal

pub add_run-requires-clause-plan : goal.add_run-requires-clause-plan
add_run-requires-clause-plan c =
    let cut = c.args.cut.now in
    plan_within cut.width cut.height c.loop-run.plan.items (omega (arith, cut.size.wide)) (omega (arith, cut.size.high)) c.loop-run.invariant.so_far.parts

pub loop-run-init : goal.loop-run-init
loop-run-init c =
    let cut = c.args.cut.now in
    record {
      width = ap (λ (k : Walking). k.width) c.new-walk.ensures;
      height = ap (λ (k : Walking). k.height) c.new-walk.ensures;
      so_far = plans_nothing cut.width cut.height c.args.area.now (marked cut) (runs_left c.new-walk.result (marked cut)) c.args.plan.now.items c.requires.empty
          (ap (λ (k : Walking). runs_left k (marked cut)) c.new-walk.ensures ∙ all_left cut.width cut.height c.args.area.now (marked cut));
    }

pub loop-run-preserved : goal.loop-run-preserved
loop-run-preserved c =
    let cut = c.args.cut.now in
    record {
      width = omega (arith, c.loop-run.invariant.width, c.next.ensures.same.width);
      height = omega (arith, c.loop-run.invariant.height, c.next.ensures.same.height);
      so_far = plans_more cut.width cut.height c.args.area.now (marked cut) _ _ c.in-Some.run'.area c.loop-run.plan.items c.add_run.new.plan.items c.in-Some.ensures.left
          (part_same c.loop-run.walk.width cut.width c.loop-run.walk.height cut.height c.in-Some.run'.area c.loop-run.invariant.width c.loop-run.invariant.height c.in-Some.ensures.run.0.part) c.in_ok-add_run.ensures.ok c.loop-run.invariant.so_far;
    }

pub returns : goal.returns
returns c =
    let cut = c.args.cut.now in
    record {
      ok = plans_all cut.width cut.height c.args.area.now (marked cut) _ c.loop-run.plan.items (omega (arith, cut.size.wide)) (omega (arith, cut.size.high)) c.requires.within c.in_default.ensures.left c.loop-run.invariant.so_far;
    }
