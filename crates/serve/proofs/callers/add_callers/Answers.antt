-- One more host was asked for, if it calls.
use Rattle.serve.proofs.Asking.{next_host}
use Rattle.serve.proofs.callers.add_callers.Goals as goal

pub returns-in_err-caller : goal.returns-in_err-caller
returns-in_err-caller g c =
    record { asked = next_host c.args.settings.now c.deref-host-items.result.now c.loop-host.host-index c.host-item.result c.as_str.result.now c.args.ports.now c.loop-host.ports c.open_caller.new.ports c.deref-host-items.ensures.value c.loop-host-test.true c.host-item.is c.as_str.ensures.value c.loop-host.invariant c.open_caller.ensures.asked }

pub returns-then-is_err : goal.returns-then-is_err
returns-then-is_err g c =
    record { asked = next_host c.args.settings.now c.deref-host-items.result.now c.loop-host.host-index c.host-item.result c.as_str.result.now c.args.ports.now c.loop-host.ports c.open_caller.new.ports c.deref-host-items.ensures.value c.loop-host-test.true c.host-item.is c.as_str.ensures.value c.loop-host.invariant c.open_caller.ensures.asked }

pub loop-host-preserved : goal.loop-host-preserved
loop-host-preserved g c =
    next_host c.args.settings.now c.deref-host-items.result.now c.loop-host.host-index c.host-item.result c.as_str.result.now c.args.ports.now c.loop-host.ports c.open_caller.new.ports c.deref-host-items.ensures.value c.loop-host-test.true c.host-item.is c.as_str.ensures.value c.loop-host.invariant c.open_caller.ensures.asked
