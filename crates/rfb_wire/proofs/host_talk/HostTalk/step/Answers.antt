use Rattle.rfb_wire.proofs.JoiningSteps.{field_steps, rest_steps, is_at_field}
use Rattle.rfb_wire.proofs.host_talk.HostTalk.step.Goals as goal

pub returns-in-Rest-clause-steps : goal.returns-in-Rest-clause-steps
returns-in-Rest-clause-steps c = rest_steps c.args.self.now c.pass.new.self c.args.byte c.requires.sound c.in-Rest.is c.pass.ensures

pub returns-in_default-clause-steps : goal.returns-in_default-clause-steps
returns-in_default-clause-steps c =
    field_steps c.args.self.now c.take.new.self c.args.byte c.requires.sound (is_at_field c.args.self.now c.requires.wants c.in_default.not-Rest) c.take.ensures.alike
