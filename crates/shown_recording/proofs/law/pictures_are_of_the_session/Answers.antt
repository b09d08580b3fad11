use Rattle.shown_recording.proofs.Pictures.{pictures}
use Rattle.shown_recording.proofs.law.pictures_are_of_the_session.Goals as goal

pub returns : goal.returns
returns g c = pictures g.P.Pace.has_come c.recorders_keep_what_was_shown.ensures
