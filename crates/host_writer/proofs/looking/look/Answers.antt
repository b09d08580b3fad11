-- The reply is noted, and the request begun where it has risen.
use Rattle.host_writer.proofs.looking.look.Goals as goal

pub returns : goal.returns
returns g c = record { number = c.look-looked.result; looked = c.look-looked.ensures.looks; risen = c.max.ensures; begins = c.of_request.ensures }
