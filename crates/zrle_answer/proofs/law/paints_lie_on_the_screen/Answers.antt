use Rattle.zrle_answer.proofs.OnTheScreen.{paints_lie_on_the_screen}
use Rattle.zrle_answer.proofs.law.paints_lie_on_the_screen.Goals as goal

pub returns : goal.returns
returns c = paints_lie_on_the_screen
