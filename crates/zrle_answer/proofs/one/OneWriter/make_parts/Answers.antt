use Rattle.zrle_answer.proofs.Whole.{nowhere, part_at}
use Rattle.zrle_answer.proofs.one.OneWriter.make_parts.Goals as goal

pub make_part-requires-clause-within : goal.make_part-requires-clause-within
make_part-requires-clause-within c =
    let cut = c.args.cut.now in
    (part_at cut.width cut.height c.args.plan.now c.loop-planned.planned-index nowhere c.loop-planned-test.true c.requires).inside
