-- A host that is a recording is one of those that follow.
use Rattle.serve.proofs.Recordings.{next_recording}
use Rattle.serve.proofs.run.has_recording.Goals as goal

pub returns-in-Some : goal.returns-in-Some
returns-in-Some c _ =
    next_recording c.args.settings.now c.deref-host-items.result.now c.loop-host.host-index c.host-item.result c.as_str-in-loop-host.result.now c.in-Some._path.now c.deref-host-items.ensures.value c.loop-host-test.true c.host-item.is c.as_str-in-loop-host.ensures.value c.in-Some.ensures.some
