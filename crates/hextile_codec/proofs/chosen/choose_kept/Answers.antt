use Rattle.std.proofs.Common.{ℕ, ◌+◌, ◌<◌, ◌∷◌, [], length, length-append, inl, inr, sym, ap, ◌∙◌, arith}
use Rattle.raster.specs.declared.rect.Rect.{Rect}
use Rattle.raster.specs.Screen.{Canvas, part_of, tile_count}
use Rattle.raster.specs.Encoding.{Carried}
use Rattle.joined_runs.specs.declared.rect_form.RectForm.TheVariants.{OfRows, Joined}
use Rattle.hextile_codec.specs.Carried.{carried_by}
use Rattle.hextile_codec.specs.Chosen.{IsChosenBy}
use Rattle.hextile_codec.specs.Sources.{shows}
use Rattle.hextile_codec.proofs.Choices.{carried_on, chosen_at, one_more, when_err, when_ok}
use Rattle.hextile_codec.proofs.KeptForms.{few_counts, if_none, kept_of}
use Rattle.hextile_codec.proofs.Tiles.{IsTileOf, rest_from, left_len, tile_of}
use Rattle.hextile_codec.proofs.chosen.choose_kept.Goals as goal

pub choose-choices-requires-clause-few : goal.choose-choices-requires-clause-few
choose-choices-requires-clause-few c =
    let tile : Rect = c.tile_rect-tile.result in
    let w : ℕ = c.args.source.now.area.w in
    let h : ℕ = c.args.source.now.area.h in
    let of : IsTileOf w h c.loop-k.k tile = tile_of w h c.loop-k.k c.tile_count-k-end.result tile c.requires.wide.0 c.tile_count-k-end.ensures.value c.loop-k-test.true c.tile_rect-tile.ensures in
    let known = c.in_ok-form.ensures.some in
    let kept = kept_of c.args.format.now w h c.loop-k.k tile (shows c.args.format.now c.args.source.now) c.args.forms.now c.in_ok-form.form.now c.requires.kept known.0 of.inside c.tile_rect-tile.ensures known.1 in
    let few = few_counts c.in_ok-form.form.now tile.w tile.h kept.0 of.size.w_some of.size.w_most of.size.h_some of.size.h_most kept.1 in
    omega (arith, few.0)

pub choose-choices-requires-clause-rows_few : goal.choose-choices-requires-clause-rows_few
choose-choices-requires-clause-rows_few c =
    let tile : Rect = c.tile_rect-tile.result in
    let w : ℕ = c.args.source.now.area.w in
    let h : ℕ = c.args.source.now.area.h in
    let of : IsTileOf w h c.loop-k.k tile = tile_of w h c.loop-k.k c.tile_count-k-end.result tile c.requires.wide.0 c.tile_count-k-end.ensures.value c.loop-k-test.true c.tile_rect-tile.ensures in
    let known = c.in_ok-form.ensures.some in
    let kept = kept_of c.args.format.now w h c.loop-k.k tile (shows c.args.format.now c.args.source.now) c.args.forms.now c.in_ok-form.form.now c.requires.kept known.0 of.inside c.tile_rect-tile.ensures known.1 in
    let few = few_counts c.in_ok-form.form.now tile.w tile.h kept.0 of.size.w_some of.size.w_most of.size.h_some of.size.h_most kept.1 in
    omega (arith, few.1)

pub overflow_add-lengths : goal.overflow_add-lengths
overflow_add-lengths c = omega (arith, c.loop-k.invariant.few.0, c.choose-choices.ensures.joined_few, c.tile_count-k-end.ensures.few, c.loop-k-test.true)

pub loop-k-preserved : goal.loop-k-preserved
loop-k-preserved c =
    let tile : Rect = c.tile_rect-tile.result in
    let format = c.args.format.now in
    let w : ℕ = c.args.source.now.area.w in
    let h : ℕ = c.args.source.now.area.h in
    let canvas : Canvas = shows format c.args.source.now in
    let of : IsTileOf w h c.loop-k.k tile = tile_of w h c.loop-k.k c.tile_count-k-end.result tile c.requires.wide.0 c.tile_count-k-end.ensures.value c.loop-k-test.true c.tile_rect-tile.ensures in
    let known = c.in_ok-form.ensures.some in
    let kept = kept_of format w h c.loop-k.k tile canvas c.args.forms.now c.in_ok-form.form.now c.requires.kept known.0 of.inside c.tile_rect-tile.ensures known.1 in
    let joined = c.choose-choices.ensures.joined kept.0 (part_of tile canvas) kept.1 kept.2 in
    let rows = c.choose-choices.ensures.rows kept.0 (part_of tile canvas) kept.1 kept.2 in
    let joined_left = left_len Joined format w h canvas (carried_by c.loop-k.said.joined) c.loop-k.k tile c.choose-choices.result.joined.len c.tile_rect-tile.ensures of.inside joined.len in
    let rows_left = left_len OfRows format w h canvas (carried_by c.loop-k.said.rows) c.loop-k.k tile c.choose-choices.result.rows.len c.tile_rect-tile.ensures of.inside rows.len in
    let joined_leaves = ap (λ (b : Carried). length (rest_from Joined format w h canvas b (c.loop-k.k + 1))) (c.leaves-said.ensures.joined ∙ joined.leaves) in
    let rows_leaves = ap (λ (b : Carried). length (rest_from OfRows format w h canvas b (c.loop-k.k + 1))) (c.leaves-said.ensures.rows ∙ rows.leaves) in
    let here : IsChosenBy format w h canvas c.args.forms.now c.loop-k.k c.choose-choices.result.joined = record { form = c.in_ok-form.form.now; kept = known.1; chosen = chosen_at format w h c.loop-k.k canvas (carried_by c.loop-k.said.joined) tile _ _ c.tile_rect-tile.ensures c.loop-k.invariant.carried joined } in
    let put = when_ok c.try_push.result (sym c.is_err.ensures.value ∙ c.if-is_err.false) c.try_push.ensures.ok in
    record {
      carried = c.leaves-said.ensures.joined ∙ (joined.leaves ∙ carried_on format w h c.loop-k.k canvas (carried_by c.loop-k.said.joined) tile c.tile_rect-tile.ensures c.loop-k.invariant.carried);
      count = omega (arith, ap length put, length-append c.loop-k.chosen.items (c.choose-choices.result.joined ∷ []), c.loop-k.invariant.count);
      chosen = rw put (one_more format w h c.loop-k.k canvas c.args.forms.now c.loop-k.chosen.items c.choose-choices.result.joined c.loop-k.invariant.count c.loop-k.invariant.chosen here);
      joined = omega (arith, joined_left, joined_leaves, c.loop-k.invariant.joined);
      rows = omega (arith, rows_left, rows_leaves, c.loop-k.invariant.rows);
      few = (omega (arith, c.choose-choices.ensures.joined_few, c.loop-k.invariant.few.0), omega (arith, c.choose-choices.ensures.few, c.loop-k.invariant.few.1));
    }

pub returns-then-is_err-clause-chosen : goal.returns-then-is_err-clause-chosen
returns-then-is_err-clause-chosen c =
    let same = when_err c.try_push.result (sym c.is_err.ensures.value ∙ c.if-is_err.true) c.try_push.ensures.err in
    rw same c.loop-k.invariant.chosen

pub returns-in_err-form-clause-none : goal.returns-in_err-form-clause-none
returns-in_err-form-clause-none c =
    let inside : c.loop-k.k < tile_count c.args.source.now.area.w c.args.source.now.area.h = rw c.tile_count-k-end.ensures.value at c.loop-k-test.true in
    if_none _ c.from_residual.result (inr (c.loop-k.k, (inside, c.in_err-form.ensures.none)))

pub returns-then-is_err-clause-none : goal.returns-then-is_err-clause-none
returns-then-is_err-clause-none c =
    let inside : c.loop-k.k < tile_count c.args.source.now.area.w c.args.source.now.area.h = rw c.tile_count-k-end.ensures.value at c.loop-k-test.true in
    let full = when_err c.try_push.result (sym c.is_err.ensures.value ∙ c.if-is_err.true) c.try_push.ensures.full in
    inl (omega (arith, inside, full, c.loop-k.invariant.count))
