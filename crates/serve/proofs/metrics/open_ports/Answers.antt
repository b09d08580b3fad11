-- Where no machine is answered after all, people were asked for, and machines.
use Rattle.serve.proofs.Asking.{machines_too}
use Rattle.serve.proofs.metrics.open_ports.Goals as goal

pub returns-in_err-machines-clause-asked : goal.returns-in_err-machines-clause-asked
returns-in_err-machines-clause-asked g c =
    machines_too c.args.settings.now c.args.ports.now c.open_all.new.ports c.open_metrics.new.ports c.open_all.ensures.asked c.open_metrics.ensures.asked
