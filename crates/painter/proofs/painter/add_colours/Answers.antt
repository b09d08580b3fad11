use Rattle.std.proofs.Common.{◌≡◌, ℕ, ◌+◌, ◌-◌, ◌<◌, List, ◌++◌, append_assoc, take, drop, length, ap, ◌∙◌, arith}
use Rattle.std.specs.Prelude.{slice_index}
use Rattle.std.proofs.lemmas.List.{length-take, length-drop}
use Rattle.raster.specs.Picture.{shown}
use Rattle.raster.specs.Screen.{Canvas, part_of, values_of}
use Rattle.painter.proofs.PaintingLaws.{next_row, part_at}
use Rattle.painter.proofs.painter.add_colours.Goals as goal

pub loop-y-preserved : goal.loop-y-preserved
loop-y-preserved c =
    let area = c.args.area.now in
    let w : ℕ = area.w in
    let y : ℕ = c.loop-y.y in
    let canvas : Canvas = part_of area (shown c.args.raster.now) in
    let before : List ℕ = c.args.colours.now.items in
    let part : List ℕ = take (area.x + w - area.x) (drop area.x c.row-row.result.now) in
    let is : c.extend_from_slice.new.self.items ≡ c.loop-y.colours.items ++ part = c.in_ok-extend_from_slice.ensures.items in
    let count : length part ≡ w = omega (arith, length-take (area.x + w - area.x) (drop area.x c.row-row.result.now), length-drop area.x c.row-row.result.now, c.row-row.ensures.count, c.requires.within.across) in
    let row : (x : ℕ) → x < w → slice_index part x ≡ canvas x y = λ x lt. part_at c.row-row.result.now area.x (area.x + w - area.x) x (omega arith) ∙ c.row-row.ensures.colours (area.x + x) (omega (arith, c.requires.within.across)) in
    is
    ∙ (ap (λ (xs : List ℕ). xs ++ part) c.loop-y.invariant
    ∙ (append_assoc before (values_of w y canvas) part ∙ ap (λ (xs : List ℕ). before ++ xs) (next_row w y canvas part c.requires.wide count row)))
