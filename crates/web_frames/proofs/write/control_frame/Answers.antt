use Rattle.std.proofs.Common.{sym}
use Rattle.web_frames.proofs.Writing.{control_is}
use Rattle.web_frames.proofs.write.control_frame.Goals as goal

pub returns : goal.returns
returns c = rw (c.in-Ok.ensures.ok, c.push-2.ensures.items, c.push.ensures.items, c.new-frame.ensures, c.from.ensures) (sym (control_is c.args.what c.args.payload.now c.requires))
