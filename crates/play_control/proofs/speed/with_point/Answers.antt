-- Without a number before the point there is no speed.
use Rattle.play_control.proofs.speed.with_point.Goals as goal

pub returns-in_default-clause-none : goal.returns-in_default-clause-none
returns-in_default-clause-none c = λ n says. c.in_default.ensures.none says.1 says.3
