use Rattle.played_session.proofs.Pictures.{never_go_back}
use Rattle.played_session.proofs.law.players_never_go_back.Goals as goal

pub returns : goal.returns
returns c = never_go_back
