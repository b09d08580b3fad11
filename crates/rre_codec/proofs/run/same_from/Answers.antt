use Rattle.std.proofs.Common.{w32, arith}
use Rattle.std.proofs.lemmas.Simd.{bitmask_splat}
use lib.Lanes.{chunk}
use Rattle.rre_codec.proofs.Front.{differ, chunk_len, all_same, front_few, front_same, front_stops}
use Rattle.rre_codec.proofs.run.same_from.Goals as goal

pub returns-then-others-eq0-clause-same : goal.returns-then-others-eq0-clause-same
returns-then-others-eq0-clause-same c =
    let values = c.args.values.now in
    all_same values c.args.from c.args.value c.requires (bitmask_splat w32 differ (chunk c.args.from 16 values) 16 c.args.value (chunk_len values c.args.from c.requires) (omega arith)) c.if-others-eq0.true

pub returns-else-others-eq0-clause-few : goal.returns-else-others-eq0-clause-few
returns-else-others-eq0-clause-few c =
    let values = c.args.values.now in
    front_few values c.args.from c.args.value c.requires (bitmask_splat w32 differ (chunk c.args.from 16 values) 16 c.args.value (chunk_len values c.args.from c.requires) (omega arith)) (omega (arith, c.if-others-eq0.false))

pub returns-else-others-eq0-clause-same : goal.returns-else-others-eq0-clause-same
returns-else-others-eq0-clause-same c =
    let values = c.args.values.now in
    front_same values c.args.from c.args.value c.requires (bitmask_splat w32 differ (chunk c.args.from 16 values) 16 c.args.value (chunk_len values c.args.from c.requires) (omega arith)) (omega (arith, c.if-others-eq0.false))

pub returns-else-others-eq0-clause-stops : goal.returns-else-others-eq0-clause-stops
returns-else-others-eq0-clause-stops c =
    let values = c.args.values.now in
    front_stops values c.args.from c.args.value c.requires (bitmask_splat w32 differ (chunk c.args.from 16 values) 16 c.args.value (chunk_len values c.args.from c.requires) (omega arith)) (omega (arith, c.if-others-eq0.false))
