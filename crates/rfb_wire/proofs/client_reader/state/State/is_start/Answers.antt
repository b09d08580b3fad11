use Rattle.std.proofs.Common.{◌∙◌}
use Rattle.rfb_wire.proofs.Beginnings.{elsewhere, elsewhere_part}
use Rattle.rfb_wire.proofs.client_reader.state.State.is_start.Goals as goal

pub returns-in_default : goal.returns-in_default
returns-in_default c =
    let other = elsewhere_part c.args.self.now c.in-Fields.fields c.in-Fields.is c.part.ensures.missing (λ e. c.in_default.not-Kind (c.part.ensures.value ∙ e)) in
    record { value = (λ e. absurd cc, λ k. absurd (other k)); begins = λ e. absurd cc }

pub returns-in-Keeping-clause-value : goal.returns-in-Keeping-clause-value
returns-in-Keeping-clause-value c = elsewhere c.args.self.now c.in-Keeping.is

pub returns-in-Keeping-2-clause-value : goal.returns-in-Keeping-2-clause-value
returns-in-Keeping-2-clause-value c = elsewhere c.args.self.now c.in-Keeping.is
