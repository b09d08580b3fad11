-- There are as many doors as `run_all` serves, and the run is one by the settings.
use Rattle.std.proofs.Common.{ap, sym, ◌∙◌}
use Rattle.std.specs.Prelude.{is_some}
use Rattle.serve.proofs.Counts.{counted_all}
use Rattle.serve.proofs.Endings.{run_by}
use Rattle.serve.proofs.Stopping.{may_end}
use Rattle.serve.proofs.run.reflect.Goals as goal

pub over-requires-clause-doors : goal.over-requires-clause-doors
over-requires-clause-doors g c κs _ = counted_all (λ door. door.0) c.args.run_seats.doors.items c.args.settings.now (is_some c.args.settings.now.recording) c.requires.doors c.requires.places

pub returns : goal.returns
returns g c =
    let over = c.over.ensures in
    run_by c.args.settings.now c.over.result c.args.met.joined c.run_screen_of-run_screen.result.width c.run_screen_of-run_screen.result.height c.run_screen_of-run_screen.result.password _ _ _ over.reflected over.room (ap is_some c.run_screen_of-run_screen.ensures.password ∙ c.requires.password) over.roles over.form over.last over.never c.run_screen_of-run_screen.ensures.room c.requires.doors c.form_of.ensures
    (λ none. may_end c.args.settings.now (sym c.requires.again ∙ none))
