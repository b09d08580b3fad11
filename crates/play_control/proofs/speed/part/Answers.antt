-- A byte that is no digit is no tenth.
use Rattle.play_control.proofs.Speeds.{no_tenth}
use Rattle.play_control.proofs.speed.part.Goals as goal

pub returns-in_default-clause-none : goal.returns-in_default-clause-none
returns-in_default-clause-none c = no_tenth c.args.place c.args.text.now c.if-text-place.true c.in_default.ensures.none
