use Rattle.played_session.proofs.Beside.{read_alike}
use Rattle.played_session.proofs.law.viewers_and_decoders_read_alike.Goals as goal

pub returns : goal.returns
returns c = read_alike
