use Rattle.std.proofs.Common.{refl}
use Rattle.joined_runs.specs.Tinted.{tinted}
use Rattle.raster.specs.Screen.{part_of, value_at}
use Rattle.painter.proofs.encoded.encode_at.Goals as goal

pub encode-requires-clause-kept : goal.encode-requires-clause-kept
encode-requires-clause-kept c =
    let source = c.args.source.now in
    c.kept_forms-forms.ensures (tinted c.args.format.now (part_of c.args.area.now (value_at source.width source.colours.now))) (λ x y lx ly. refl)
