use Rattle.std.proofs.Common.{◌+◌, sym, ap, ◌∙◌}
use Rattle.input_relay.specs.declared.queue.View.{View}
use Rattle.input_relay.specs.Relay.{strand, taker}
use Rattle.input_relay.proofs.Strands.{forks}
use Rattle.input_relay.proofs.queue.ends.seat.Goals as goal

pub another-own-requires-clause-rule : goal.another-own-requires-clause-rule
another-own-requires-clause-rule g c = forks _ _ (ap (λ v. v.gets) c.requires.knows)

pub returns-clause-made : goal.returns-clause-made
returns-clause-made g c = ap (λ (v : View). strand c.args.place v.put) c.another-own.ensures.rule.1

pub returns-clause-own : goal.returns-clause-own
returns-clause-own g c = c.another-own.ensures.queue.1.0 ∙ (ap (λ q. q.table.shared.table_id) c.deref.ensures ∙ sym c.requires.seated.0)

pub returns-clause-knows : goal.returns-clause-knows
returns-clause-knows g c = c.another-own.ensures.rule.0 ∙ ap (λ (v : View). taker (v.from + 1) v.got v.known) c.requires.knows
