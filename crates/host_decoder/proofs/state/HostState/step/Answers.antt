use Rattle.host_decoder.proofs.state.HostState.step.Goals as goal

pub returns-in-Passing-clause-stays : goal.returns-in-Passing-clause-stays
returns-in-Passing-clause-stays c = c.skip.ensures.stays c.args.painter.now
