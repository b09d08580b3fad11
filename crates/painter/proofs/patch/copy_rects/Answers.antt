use Rattle.std.proofs.Common.{◌≡◌, ℕ, ◌+◌, List, [], ◌∷◌, ◌++◌, get_or, map, take, ap, sym, ◌∙◌, arith}
use Rattle.std.proofs.lemmas.List.{map_push, take_all, take_more}
use Rattle.raster.specs.Painted.{Fits, paint_of as painted_of}
use Rattle.raster.specs.Screen.{Canvas, value_at}
use Rattle.raster.specs.Update.{Paint, after_paint, after_paints}
use Rattle.raster.proofs.Screens.{after_paints-more, looks_after}
use Rattle.copy_log.specs.Notes.{paint_of}
use Rattle.copy_log.specs.declared.copy_rect.CopyRect.{CopyRect}
use Rattle.painter.proofs.CopyLaws.{all_one, no_copy}
use Rattle.painter.proofs.patch.copy_rects.Goals as goal

pub apply_paints-requires-clause-fits : goal.apply_paints-requires-clause-fits
apply_paints-requires-clause-fits c =
    all_one (λ p. Fits c.args.width c.args.height (painted_of p)) _ (c.requires.copies.fit c.loop-copy.copy-index no_copy c.loop-copy-test.true)

pub loop-copy-preserved : goal.loop-copy-preserved
loop-copy-preserved c =
    let w : ℕ = c.args.width in
    let h : ℕ = c.args.height in
    let i : ℕ = c.loop-copy.copy-index in
    let copies : List CopyRect = c.args.copies.now in
    let k : CopyRect = get_or copies i no_copy in
    let start : Canvas = value_at w c.args.screen.now in
    let before : List Paint = map paint_of (take i copies) in
    let fits : Fits w h (paint_of k) = c.requires.copies.fit i no_copy c.loop-copy-test.true in
    let list : map paint_of (take (i + 1) copies) ≡ before ++ paint_of k ∷ [] = ap (map paint_of) (take_more copies i no_copy c.loop-copy-test.true) ∙ map_push paint_of (take i copies) k in
    let all : after_paints start (map paint_of (take (i + 1) copies)) ≡ after_paint (after_paints start before) (paint_of k) = ap (after_paints start) list ∙ after_paints-more start before (paint_of k) in
    let step = looks_after w h (value_at w c.loop-copy.screen) (after_paints start before) (paint_of k) fits c.loop-copy.invariant.shows in
    record {
      rows = omega (arith, c.loop-copy.invariant.rows, c.apply_paints.auto.values);
      shows = λ x y lx ly. c.apply_paints.ensures x y lx ly ∙ (step x y lx ly ∙ sym (ap (λ (s : Canvas). s x y) all));
    }

pub returns : goal.returns
returns c x y lx ly =
    c.loop-copy.invariant.shows x y lx ly
    ∙ ap (λ (cs : List CopyRect). after_paints (value_at c.args.width c.args.screen.now) (map paint_of cs) x y) (take_all c.loop-copy.copy-index c.args.copies.now c.loop-copy-test.false)
