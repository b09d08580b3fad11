-- What `run_all` says of the run, of what shows that it was run.
use Rattle.std.proofs.Common.{subst, sym}
use Rattle.reflector.specs.Course.{IsReflected}
use Rattle.reflector.proofs.Courses.{reflected}
use Rattle.serve.proofs.run.over.Goals as goal

pub returns-clause-reflected : goal.returns-clause-reflected
returns-clause-reflected g c =
    subst IsReflected (sym c.in_ok-ran.ensures.ran)
    (reflected _ g.J.Naming.width g.J.Naming.height _ c.requires.size.0 c.requires.size.1 c.requires.joins c.requires.fits c.in_ok-ran.ensures.run c.in_ok-ran.ensures.in_turn)
