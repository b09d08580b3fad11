use Rattle.std.proofs.Common.{ℕ, ◌+◌, Bool, false, List, drop, get_or, None, subst}
use Rattle.update_encoder.specs.Coming.{shown}
use Rattle.update_encoder.specs.Style.{style_in}
use Rattle.zrle_answer.specs.Planned.{areas_of}
use Rattle.zrle_answer.specs.Written.{AppendsAll}
use Rattle.zrle_answer.specs.declared.plan.Planned.{Planned}
use Rattle.zrle_answer.proofs.Whole.{all_so_far, from_end, from_place, nowhere, one_further, part_at, some_positions}
use Rattle.zrle_answer.proofs.answer.append_all.Goals as goal

pub append-requires-clause-within : goal.append-requires-clause-within
append-requires-clause-within c =
    let cut = c.args.cut.now in
    (part_at cut.width cut.height c.args.plan.now c.loop-planned.planned-index nowhere c.loop-planned-test.true c.requires).inside

pub append-requires-clause-some : goal.append-requires-clause-some
append-requires-clause-some c =
    let cut = c.args.cut.now in
    let plan : List Planned = c.args.plan.now in
    some_positions cut.width cut.height (get_or plan c.loop-planned.planned-index nowhere).area (part_at cut.width cut.height plan c.loop-planned.planned-index nowhere c.loop-planned-test.true c.requires)

pub loop-planned-preserved : goal.loop-planned-preserved
loop-planned-preserved c =
    let cut = c.args.cut.now in
    let plan : List Planned = c.args.plan.now in
    let k : ℕ = c.loop-planned.planned-index in
    let part = part_at cut.width cut.height plan k nowhere c.loop-planned-test.true c.requires in
    record {
      lies = part.inside;
      so_far = one_further (style_in c.args.style.now) (shown cut) c.may_copy-may_copy.result (areas_of plan) (areas_of (drop k plan)) (areas_of (drop (k + 1) plan)) c.loop-planned.before (get_or plan k nowhere).area c.args.begun c.loop-planned.begun c.in_ok-begun.begun
          c.args.out.now.items c.loop-planned.out.items c.append.new.out.items (from_place plan k nowhere c.loop-planned-test.true) c.in_ok-begun.ensures.ok c.loop-planned.invariant.so_far;
    }

pub returns-clause-ok : goal.returns-clause-ok
returns-clause-ok c =
    let cut = c.args.cut.now in
    let plan : List Planned = c.args.plan.now in
    subst (λ (b : Bool). AppendsAll (style_in c.args.style.now) (shown cut) b None (areas_of plan) c.args.begun c.loop-planned.begun c.args.out.now.items c.loop-planned.out.items) c.may_copy-may_copy.ensures
    (all_so_far (style_in c.args.style.now) (shown cut) c.may_copy-may_copy.result (areas_of plan) (areas_of (drop c.loop-planned.planned-index plan)) c.loop-planned.before c.args.begun c.loop-planned.begun c.args.out.now.items c.loop-planned.out.items
    (from_end plan c.loop-planned.planned-index c.loop-planned-test.false) c.loop-planned.invariant.so_far)
