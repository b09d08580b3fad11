-- Each group of options is added to the command with the groups before it.
use Rattle.std.proofs.lemmas.Result.{IfOk-weaker}
use Rattle.command_line.proofs.Added.{added}
use Rattle.command_line.proofs.serve_command.serve_command.Goals as goal

pub returns : goal.returns
returns c =
    let hosts = added _ _ _ c.in_ok-without_options.ensures c.in_ok-host_options.ensures.rules c.in_ok-host_options.ensures.local c.in_ok-args.ensures in
    let ports = added _ _ _ hosts c.in_ok-port_options.ensures.rules c.in_ok-port_options.ensures.local c.in_ok-args-2.ensures in
    let viewers = added _ _ _ ports c.in_ok-viewer_options.ensures.rules c.in_ok-viewer_options.ensures.local c.in_ok-args-3.ensures in
    let screens = added _ _ _ viewers c.in_ok-screen_options.ensures.rules c.in_ok-screen_options.ensures.local c.in_ok-args-4.ensures in
    let browsers = added _ _ _ screens c.in_ok-browser_options.ensures.rules c.in_ok-browser_options.ensures.local c.in_ok-args-5.ensures in
    let machines = added _ _ _ browsers c.in_ok-machine_options.ensures.rules c.in_ok-machine_options.ensures.local c.in_ok-args-6.ensures in
    let turns = added _ _ _ machines c.in_ok-turn_options.ensures.rules c.in_ok-turn_options.ensures.local c.in_ok-args-7.ensures in
    IfOk-weaker c.args-9.result _ _ (λ command. added _ command _ turns c.in_ok-run_options.ensures.rules c.in_ok-run_options.ensures.local) c.args-9.ensures
