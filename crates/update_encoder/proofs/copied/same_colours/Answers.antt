use Rattle.std.proofs.Common.{◌≡◌, ◌∙◌, Bool, true, false, refl, sym, ap, arith}
use Rattle.std.specs.Prelude.{not}
use Rattle.std.specs.Cmp.Lexicographic.{same_text, other_text}
use Rattle.raster.specs.Screen.{Canvas, part_of, value_at, values_of}
use Rattle.update_encoder.proofs.Copies.{are_same, differ, same_more, same_row}
use Rattle.raster.proofs.PixelRows.{row_at}
use Rattle.update_encoder.proofs.copied.same_colours.Goals as goal

unequal : (b : Bool) → true ≡ not b → false ≡ b
unequal true e = absurd cc
unequal false e = refl

equal : (b : Bool) → false ≡ not b → true ≡ b
equal true e = refl
equal false e = absurd cc

pub returns-then-ne : goal.returns-then-ne
returns-then-ne c =
    let canvas : Canvas = value_at c.args.width c.args.colours.now in
    let above = c.args.above.now in
    let area = c.args.area.now in
    let upper : c.row_of-upper.result.now ≡ row_at above.w (part_of above canvas) c.loop-row.row = c.row_of-upper.ensures.shows in
    let lower : c.row_of-lower.result.now ≡ row_at area.w (part_of area canvas) c.loop-row.row = c.row_of-lower.ensures.shows in
    let other = other_text c.row_of-upper.result.now c.row_of-lower.result.now (unequal _ c.if-ne.ensures) in
    differ _ _
    (λ same.
    let in_one : values_of area.w area.h (part_of above canvas) ≡ values_of area.w area.h (part_of area canvas) =
    ap (λ n. values_of n area.h (part_of above canvas)) (sym c.requires.wide) ∙ (ap (λ n. values_of above.w n (part_of above canvas)) (sym c.requires.high) ∙ same) in
    other (upper ∙ (ap (λ n. row_at n (part_of above canvas) c.loop-row.row) c.requires.wide ∙ (same_row area.w area.h c.loop-row.row (part_of above canvas) (part_of area canvas) c.loop-row-test.true in_one ∙ sym lower))))

pub loop-row-preserved : goal.loop-row-preserved
loop-row-preserved c =
    let canvas : Canvas = value_at c.args.width c.args.colours.now in
    let above = c.args.above.now in
    let area = c.args.area.now in
    let upper : c.row_of-upper.result.now ≡ row_at above.w (part_of above canvas) c.loop-row.row = c.row_of-upper.ensures.shows in
    let lower : c.row_of-lower.result.now ≡ row_at area.w (part_of area canvas) c.loop-row.row = c.row_of-lower.ensures.shows in
    let same : c.row_of-upper.result.now ≡ c.row_of-lower.result.now = same_text c.row_of-upper.result.now c.row_of-lower.result.now (equal _ c.if-ne.ensures) in
    same_more above.w area.w c.loop-row.row (part_of above canvas) (part_of area canvas) c.loop-row.invariant (sym upper ∙ (same ∙ lower))

pub returns : goal.returns
returns c =
    let canvas : Canvas = value_at c.args.width c.args.colours.now in
    let all : c.loop-row.row ≡ c.args.area.now.h = omega (arith, c.loop-row-test.false, c.loop-row.auto.row-end) in
    let upper : c.loop-row.row ≡ c.args.above.now.h = all ∙ sym c.requires.high in
    are_same _ _
    (sym (ap (λ n. values_of c.args.above.now.w n (part_of c.args.above.now canvas)) upper) ∙ (c.loop-row.invariant ∙ ap (λ n. values_of c.args.area.now.w n (part_of c.args.area.now canvas)) all))
