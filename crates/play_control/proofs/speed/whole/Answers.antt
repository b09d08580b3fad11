-- A byte that is no digit is no number.
use Rattle.play_control.proofs.Speeds.{no_digit}
use Rattle.play_control.proofs.speed.whole.Goals as goal

pub returns-in-None-clause-none : goal.returns-in-None-clause-none
returns-in-None-clause-none c = no_digit c.args.len c.args.text.now c.in-1.is c.in-None.ensures.none
