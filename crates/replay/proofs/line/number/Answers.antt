use Rattle.std.proofs.Common.{sym, ap, ◌∙◌}
use Rattle.replay.proofs.Lines.{none_read, number_read, padded, padded_is_none}
use Rattle.replay.proofs.line.number.Goals as goal

pub returns-then-is_padded-clause-none : goal.returns-then-is_padded-clause-none
returns-then-is_padded-clause-none c = padded_is_none c.args.text.now (ap padded (sym c.as_bytes.ensures.value) ∙ (sym c.is_padded.ensures ∙ c.if-is_padded.true))

pub returns-clause-found : goal.returns-clause-found
returns-clause-found c = number_read c.args.text.now c.parse.result c.ok.result c.parse.ensures.value.0 c.ok.ensures.value (ap padded (sym c.as_bytes.ensures.value) ∙ (sym c.is_padded.ensures ∙ c.if-is_padded.false))

pub returns-clause-none : goal.returns-clause-none
returns-clause-none c = none_read c.args.text.now c.parse.result c.ok.result c.parse.ensures.value.0 c.ok.ensures.value
