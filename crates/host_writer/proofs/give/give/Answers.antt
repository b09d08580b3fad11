-- One answer of the link.
use Rattle.host_writer.proofs.Writers.{gives_bytes}
use Rattle.host_writer.proofs.give.give.Goals as goal

pub returns-in-Bytes-clause-gives : goal.returns-in-Bytes-clause-gives
returns-in-Bytes-clause-gives g c =
    gives_bytes c.args.saying.now c.go_on.new.self (g.L.Link.state c.args.link.now) (g.L.Link.state c.give.new.self) c.front.result.now c.in-Bytes.count c.front.ensures.value c.in-Bytes.ensures.1 c.go_on.ensures c.in-Bytes.ensures.2
