use Rattle.rfb_wire.proofs.Handshakes.{asked_without}
use Rattle.rfb_wire.proofs.Passwords.{same_unasked, same_answer, same_hello, said_to_one_that_offers_none}
use Rattle.rfb_wire.proofs.password_law.password_is_used_for_a_challenge_only.Goals as goal

pub returns-clause-unasked : goal.returns-clause-unasked
returns-clause-unasked c = same_unasked

pub returns-clause-answered : goal.returns-clause-answered
returns-clause-answered c = same_answer

pub returns-clause-read : goal.returns-clause-read
returns-clause-read c = same_hello

pub returns-clause-offered : goal.returns-clause-offered
returns-clause-offered c = said_to_one_that_offers_none

pub returns-clause-without : goal.returns-clause-without
returns-clause-without c = asked_without
