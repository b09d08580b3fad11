-- All texts that the settings name are origins, and no other is let in but a port's own.
use Rattle.std.specs.Arc.{arc_value}
use Rattle.serve.proofs.Nulls.{never}
use Rattle.serve.proofs.entries.open_all.Goals as goal

pub returns-clause-null : goal.returns-clause-null
returns-clause-null g c = never c.args.settings.now (arc_value c.in_ok-files.files) c.in_ok-web.web.items c.in_ok-web.ensures.entries c.in_ok-files.ensures.origins
