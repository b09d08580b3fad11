use Rattle.std.proofs.Common.{List, All, sym, subst}
use Rattle.web_site.specs.declared.table.WebFile.{WebFile}
use Rattle.web_root.specs.Roots.{IsFileOf}
use Rattle.web_root.proofs.Rooting.{anyway}
use Rattle.web_root.proofs.walk.Walk.meet.Goals as goal

pub returns-in-Enter : goal.returns-in-Enter
returns-in-Enter g c =
    record { files = anyway c.push.result (subst (λ (t : List WebFile). All (IsFileOf (g.D.Disk.has c.args.disk.now) (g.D.Disk.gave c.args.disk.now)) t) (sym c.push.ensures) c.requires.files) }
