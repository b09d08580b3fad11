-- What is kept is more than what is promised.
use Rattle.playback.proofs.Playing.{is_played}
use Rattle.playback.proofs.played.PlayedLink.plays.Goals as goal

pub returns-clause-played : goal.returns-clause-played
returns-clause-played g c = rw (← c.self.view_is) (is_played g.P.Pace.has_come g.F.Recorded.is_all g.F.Recorded.has_failed _ c.self.invariant.3)

-- Once it has ended it is over, and then all was played.
pub returns-clause-out : goal.returns-clause-out
returns-clause-out g c = rw (← c.self.view_is) (λ ended. c.self.invariant.3.over (c.self.invariant.4 ended))
