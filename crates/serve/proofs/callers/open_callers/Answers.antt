-- The first host was asked for, if it calls, and then the others.
use Rattle.serve.proofs.Asking.{first_host, more_hosts}
use Rattle.serve.proofs.callers.open_callers.Goals as goal

pub returns-in_err-add_callers : goal.returns-in_err-add_callers
returns-in_err-add_callers g c =
    record { asked = more_hosts c.args.settings.now c.args.ports.now c.open_caller.new.ports c.add_callers.new.ports (first_host c.args.settings.now c.as_str.result.now c.args.ports.now c.open_caller.new.ports c.as_str.ensures.value c.open_caller.ensures.asked) c.add_callers.ensures.asked }

pub returns : goal.returns
returns g c =
    record { asked = more_hosts c.args.settings.now c.args.ports.now c.open_caller.new.ports c.add_callers.new.ports (first_host c.args.settings.now c.as_str.result.now c.args.ports.now c.open_caller.new.ports c.as_str.ensures.value c.open_caller.ensures.asked) c.add_callers.ensures.asked }
