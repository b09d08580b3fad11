use Rattle.played_session.proofs.Hello.{hellos_heard}
use Rattle.played_session.proofs.law.hellos_are_heard.Goals as goal

pub returns : goal.returns
returns c = hellos_heard
