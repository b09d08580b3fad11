use Rattle.std.proofs.Common.{◌≡◌, ℕ, true, false, List, [], ◌∷◌, ◌++◌, map, sym, ap, subst, ◌∙◌}
use Rattle.byte_reading.specs.Reading.{Reading, after}
use Rattle.raster.specs.declared.rect.Rect.{Rect}
use Rattle.raster.specs.Screen.{LooksLike, part_of, value_at}
use Rattle.raster.specs.Update.{Paint, Put}
use Rattle.painter.specs.Drawing.{IsPaintedAround, drawn}
use Rattle.painter.specs.Painter.{Painting, IsPaintedOver, worked}
use Rattle.host_decoder.specs.Updates.{colour_of, in_colours}
use Rattle.host_decoder.proofs.Drawn.{fed_by, still_around}
use Rattle.host_decoder.proofs.rect_reader.paint_pixels.Goals as goal
use Rattle.host_decoder.proofs.rect_reader.paint_pixels.Goals.{then-whole, else-whole}

pub returns-clause-fed : goal.returns-clause-fed
returns-clause-fed g c start paints reading around stands =
    let Stands = g.R.RectReader.Stands in
    let piece : List ℕ = c.args.piece.now in
    let old : Painting = c.args.painter.now in
    let mid : Painting = c.feed.new.painter in
    let area : Rect = old.area in
    let reader = c.feed.new.self in
    let e = c.in_ok-used.ensures in
    let next : Reading Paint = after reading piece in
    let fed = e.fed reading stands in
    let same : mid.area ≡ area = e.around.area in
    let still : IsPaintedAround start paints area mid = still_around start paints old mid e.around around in
    fed_by c.is_whole-whole.result (λ next. IsPaintedAround start paints area c.if-whole.painter × Stands area reader (part_of area (worked c.if-whole.painter)) next) start paints c.if-whole.painter reading piece c.in_ok-used.used fed.1
    (c.is_whole-whole.ensures.whole area (drawn mid) next fed.0)
    (λ no. elim c.if-whole.branch [
      | then-whole w ↦ let f : true ≡ false = sym w.if-whole.true ∙ no in absurd cc
      | else-whole w ↦
          subst (λ (p : Painting). IsPaintedAround start paints area p × Stands area reader (part_of area (worked p)) next) (sym w.painter-is)
          (still, subst (λ (a : Rect). Stands area reader (part_of a (worked mid)) next) same fed.0)
    ])
    (λ yes painted is. elim c.if-whole.branch [
      | then-whole w ↦
          let d = c.is_whole-whole.ensures.drawn area (drawn mid) painted (subst (λ (r : Reading Paint). Stands area reader (drawn mid) r) is fed.0) in
          let values : List ℕ = map colour_of d.values in
          let here : IsPaintedAround start paints mid.area mid = subst (λ (a : Rect). IsPaintedAround start paints a mid) (sym same) still in
          let looks : LooksLike mid.area.w mid.area.h (drawn mid) (value_at mid.area.w values) = subst (λ (a : Rect). LooksLike a.w a.h (drawn mid) (value_at a.w values)) (sym same) d.shows in
          let shown : IsPaintedOver start (paints ++ Put mid.area values ∷ []) w.end_drawing.new.self = w.end_drawing.ensures.painted start paints values here looks in
          let paint : Put mid.area values ≡ in_colours painted = ap (λ (a : Rect). Put a values) same ∙ ap in_colours (sym d.is) in
          subst (λ (p : Painting). IsPaintedOver start (paints ++ in_colours painted ∷ []) p) (sym w.painter-is) (subst (λ (p : Paint). IsPaintedOver start (paints ++ p ∷ []) w.end_drawing.new.self) paint shown)
      | else-whole w ↦ let f : true ≡ false = sym yes ∙ w.if-whole.false in absurd cc
    ])
