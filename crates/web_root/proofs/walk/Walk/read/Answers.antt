use Rattle.std.proofs.Common.{ℕ, List, sym, subst}
use Rattle.std.specs.String.{string_bytes}
use Rattle.web_root.proofs.Rooting.{added_file}
use Rattle.web_root.proofs.walk.Walk.read.Goals as goal

pub returns : goal.returns
returns g c =
    let gives = subst (λ (p : List ℕ). g.D.Disk.gave c.args.disk.now p c.in_ok-body.body.items) c.as_str.ensures.value c.in_ok-body.ensures in
    record { files = added_file (g.D.Disk.has c.args.disk.now) (g.D.Disk.gave c.args.disk.now) _ _ c.args.path _ c.in_ok-add.ensures.added c.requires.regular (subst (λ (b : List ℕ). g.D.Disk.gave c.args.disk.now (string_bytes c.args.path) b) (sym c.in_ok-from_vec.ensures.ok) gives) c.requires.files }
