-- The port of each role was opened for it, one after the other.
use Rattle.std.specs.Arc.{arc_value}
use Rattle.serve.proofs.Browsers.{both}
use Rattle.serve.proofs.web.open_webs.Goals as goal

pub returns-clause-entries : goal.returns-clause-entries
returns-clause-entries g c =
    both c.args.settings.now (arc_value c.args.files.now) c.in_ok-entry.entry c.in_ok-entry-2.entry c.new-web.result.items c.add.new.ports.items c.add-2.new.ports.items c.new-web.ensures.items
    c.in_ok-entry.ensures.entry c.in_ok-add.ensures c.in_ok-entry-2.ensures.entry c.in_ok-add-2.ensures
