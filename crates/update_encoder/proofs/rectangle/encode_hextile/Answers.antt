use Rattle.std.proofs.Common.{sym, subst}
use Rattle.raster.specs.Screen.{Canvas, LooksLike, part_of, value_at}
use Rattle.joined_runs.specs.Tinted.{tinted}
use Rattle.update_encoder.proofs.rectangle.encode_hextile.Goals as goal

pub encode_values-requires-clause-kept : goal.encode_values-requires-clause-kept
encode_values-requires-clause-kept c = λ pixels looks.
    let area = c.args.area.now in
    let same : Canvas → Type 0 = λ colours. LooksLike area.w area.h pixels (tinted c.args.style.now.format (part_of area colours)) in
    c.kept_forms-forms.ensures pixels (subst same (λ i. value_at (sym c.source-source.ensures.0 i) (sym c.source-source.ensures.2 i)) looks)
