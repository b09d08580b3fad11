use Rattle.rfb_wire.proofs.Judging.{answered_by, unanswered}
use Rattle.rfb_wire.proofs.host_talk.HostTalk.judge_challenge.Goals.{in-Some, in_default}
use Rattle.rfb_wire.proofs.host_talk.HostTalk.judge_challenge.Goals as goal

pub returns : goal.returns
returns c =
    elim c.match-self.branch [
      | in-Some w ↦ rw (c.begin.ensures, w.self-is, w.say.ensures)
          (answered_by c.args.self.now w.in-Some.password w.answer-answer.result c.requires.stage c.requires.whole c.requires.says w.in-Some.is w.answer-answer.ensures)
      | in_default w ↦ rw (c.begin.ensures, w.self-is) (unanswered c.args.self.now c.requires.stage c.requires.whole c.requires.says w.in_default.is)
    ]
