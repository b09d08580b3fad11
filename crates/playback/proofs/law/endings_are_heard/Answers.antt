use Rattle.playback.proofs.Endings.{all_by_then}
use Rattle.playback.proofs.law.endings_are_heard.Goals as goal

pub returns : goal.returns
returns g c = all_by_then g.P.Pace.has_come g.F.Recorded.is_all
