use Rattle.std.proofs.Common.{sym}
use Rattle.rfb_wire.proofs.Joinings.{wants_by}
use Rattle.rfb_wire.proofs.host_talk.HostTalk.wants_more.Goals as goal

pub returns : goal.returns
returns c = wants_by c.args.self.now c.is_open.result c.requires (sym c.is_open.ensures)
