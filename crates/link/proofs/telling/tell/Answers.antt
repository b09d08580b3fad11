-- So much more of the messages was given.
use Rattle.link.proofs.Handshaking.{tells_fine, tells_so_far}
use Rattle.link.proofs.telling.tell.Goals as goal

pub returns-clause-so_far : goal.returns-clause-so_far
returns-clause-so_far g c = λ password start joined k. tells_so_far password start _ _ joined c.args.messages.now c.split_at.result.1.now c.args.given.now c.in_ok-count.count c.split_at.ensures.back c.in_ok-count.ensures.given.1 k

pub returns-clause-keeps : goal.returns-clause-keeps
returns-clause-keeps g c = λ password start joined k. tells_fine password start _ _ joined c.args.messages.now c.split_at.result.1.now c.args.given.now c.in_ok-count.count c.split_at.ensures.back c.in_ok-count.ensures.given.1 k
