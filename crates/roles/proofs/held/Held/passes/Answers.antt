use Rattle.roles.proofs.HeldLaws.{full_stands, full_allowed}
use Rattle.rfb_wire.specs.Message.{message_of}
use Rattle.roles.proofs.held.Held.passes.Goals as goal

pub returns-in-Full-clause-stands : goal.returns-in-Full-clause-stands
returns-in-Full-clause-stands c messages stands =
    rw c.in-Full.is (full_stands c.args.self.now c.passes_message.new.self messages (message_of c.args.message.now) c.passes_message.ensures.kept (rw (← c.in-Full.is) stands))

pub returns-in-Full-clause-allowed : goal.returns-in-Full-clause-allowed
returns-in-Full-clause-allowed c messages stands =
    rw c.in-Full.is (full_allowed c.args.self.now c.passes_message.result messages (message_of c.args.message.now) c.passes_message.ensures.value (rw (← c.in-Full.is) stands))
