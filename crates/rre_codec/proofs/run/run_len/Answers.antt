use Rattle.std.proofs.Common.{◌+◌, ◌∙◌, ap, arith}
use Rattle.rre_codec.proofs.Front.{more_same, run_is, run_goes_on}
use Rattle.rre_codec.proofs.run.run_len.Goals as goal

pub returns-then-same-lt-LANES : goal.returns-then-same-lt-LANES
returns-then-same-lt-LANES c =
    let values = c.args.values.now in
    let value = c.args.value in
    let len = c.loop-len.len in
    let more = c.same_from-same.result in
    let said = c.same_from-same.ensures in
    run_is values value (len + more) (omega (arith, c.loop-len-test.true, c.if-same-lt-LANES.true)) (more_same values value len more c.loop-len.invariant.1 said.same) (λ lt. said.stops c.if-same-lt-LANES.true)

pub returns : goal.returns
returns c =
    ap (λ n. c.loop-len.len + n) c.run_len_by_one.ensures ∙ run_goes_on c.args.values.now c.args.value c.loop-len.len c.loop-len.invariant.0 c.loop-len.invariant.1
