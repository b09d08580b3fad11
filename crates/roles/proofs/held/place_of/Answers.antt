use Rattle.std.proofs.Common.{arith, length}
use Rattle.roles.proofs.Keys.{reaches}
use Rattle.roles.proofs.held.place_of.Goals as goal

pub returns-then-held-key-clause-value : goal.returns-then-held-key-clause-value
returns-then-held-key-clause-value c = reaches c.args.keys.now c.args.key c.loop-index.index c.loop-index.auto.index-end c.loop-index.invariant (λ _. c.if-held-key.true)

pub returns-clause-value : goal.returns-clause-value
returns-clause-value c = reaches c.args.keys.now c.args.key (length c.args.keys.now) (omega arith) (λ k lt. c.loop-index.invariant k (omega arith)) (λ lt. absurd (omega arith))
