use Rattle.std.proofs.Common.{sym, ap, ◌∙◌}
use Rattle.rfb_wire.specs.Handshake.{is_host_version}
use Rattle.rfb_wire.proofs.Judging.{good_version, bad_version}
use Rattle.rfb_wire.proofs.host_talk.HostTalk.judge_version.Goals as goal

pub returns-then-is_accepted : goal.returns-then-is_accepted
returns-then-is_accepted c =
    rw (c.begin.ensures, c.say.ensures)
    (good_version c.args.self.now c.requires.stage c.requires.whole c.requires.says (ap is_host_version (sym c.as_slice.ensures.value) ∙ (sym c.is_accepted.ensures ∙ c.if-is_accepted.true)))

pub returns-else-is_accepted : goal.returns-else-is_accepted
returns-else-is_accepted c =
    bad_version c.args.self.now c.requires.stage c.requires.whole c.requires.says (ap is_host_version (sym c.as_slice.ensures.value) ∙ (sym c.is_accepted.ensures ∙ c.if-is_accepted.false))
