use Rattle.std.proofs.Common.{sym}
use Rattle.rfb_wire.proofs.Joinings.{no_fault}
use Rattle.rfb_wire.proofs.host_talk.HostTalk.fault.Goals as goal

pub returns-in_default : goal.returns-in_default
returns-in_default c = sym (no_fault c.args.self.now c.requires c.in_default.not-BadVersion c.in_default.not-Refused c.in_default.not-NoNone c.in_default.not-Failed c.in_default.not-BadScreen)
