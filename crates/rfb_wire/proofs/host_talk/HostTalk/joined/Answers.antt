use Rattle.std.proofs.Common.{sym}
use Rattle.rfb_wire.proofs.Joinings.{not_whole}
use Rattle.rfb_wire.proofs.host_talk.HostTalk.joined.Goals as goal

pub returns-in_default : goal.returns-in_default
returns-in_default c = sym (not_whole c.args.self.now c.requires c.in_default.not-Joined)
