use Rattle.std.proofs.Common.{◌≡◌, ℕ, ◌+◌, ◌*◌, ◌≤◌, ◌∙◌, List, length, get_or, ap, arith}
use Rattle.raster.specs.Screen.{Canvas, value_at}
use Rattle.rre_codec.specs.Corners.{corners_before}
use Rattle.rre_codec.proofs.Begun.{joined_before, row_more, upto}
use Rattle.rre_codec.proofs.corners.has_joined.Goals as goal

pub returns-then-count-enough : goal.returns-then-count-enough
returns-then-count-enough c _ =
    let values : List ℕ = c.args.values.now in
    let w : ℕ = c.args.w in
    let canvas : Canvas = value_at w values in
    let y : ℕ = c.loop-y.y in
    let front : 0 ≡ 0 * w + 0 = omega arith in
    let first : get_or values 0 0 ≡ canvas 0 0 = ap (λ k. get_or values k 0) front in
    let size : length c.row_of-row.result.now ≡ w = c.row_of-row.ensures.len in
    let row : c.count_corners.result ≡ corners_before canvas (get_or values 0 0) y (length c.row_of-row.result.now) = c.count_corners.ensures.value canvas y (λ x lt. c.row_of-row.ensures.values x (omega (arith, lt, size))) (λ x lt. c.row_of-above.ensures.values x (omega (arith, lt, size))) in
    let same : corners_before canvas (get_or values 0 0) y (length c.row_of-row.result.now) ≡ corners_before canvas (canvas 0 0) y w = ap (λ b. corners_before canvas b y (length c.row_of-row.result.now)) first ∙ ap (corners_before canvas (canvas 0 0) y) size in
    let more = row_more canvas (canvas 0 0) w c.args.h y in
    let all = upto canvas (canvas 0 0) w c.args.h (y + 1) (omega (arith, c.loop-y-test.true)) in
    reached c.loop-y.count c.from-count.result c.args.enough (length (joined_before canvas (canvas 0 0) w c.args.h y)) (corners_before canvas (canvas 0 0) y w) (length (joined_before canvas (canvas 0 0) w c.args.h (y + 1))) _ c.loop-y.invariant.so_far (c.from-count.ensures ∙ (row ∙ same)) more all
    c.if-count-enough.true
  where
    reached : (count new enough before corners after whole : ℕ) → count ≤ before → new ≡ corners → before + corners ≤ after → after ≤ whole → enough ≤ count + new → enough ≤ whole
    reached count new enough before corners after whole a b d e f = omega arith

pub loop-y-preserved : goal.loop-y-preserved
loop-y-preserved c =
    let values : List ℕ = c.args.values.now in
    let w : ℕ = c.args.w in
    let canvas : Canvas = value_at w values in
    let y : ℕ = c.loop-y.y in
    let front : 0 ≡ 0 * w + 0 = omega arith in
    let first : get_or values 0 0 ≡ canvas 0 0 = ap (λ k. get_or values k 0) front in
    let size : length c.row_of-row.result.now ≡ w = c.row_of-row.ensures.len in
    let row : c.count_corners.result ≡ corners_before canvas (get_or values 0 0) y (length c.row_of-row.result.now) = c.count_corners.ensures.value canvas y (λ x lt. c.row_of-row.ensures.values x (omega (arith, lt, size))) (λ x lt. c.row_of-above.ensures.values x (omega (arith, lt, size))) in
    let same : corners_before canvas (get_or values 0 0) y (length c.row_of-row.result.now) ≡ corners_before canvas (canvas 0 0) y w = ap (λ b. corners_before canvas b y (length c.row_of-row.result.now)) first ∙ ap (corners_before canvas (canvas 0 0) y) size in
    let more = row_more canvas (canvas 0 0) w c.args.h y in
    record {
      few = omega (arith, c.loop-y.invariant.few, c.from-count.ensures, c.count_corners.ensures.few);
      so_far = added c.loop-y.count c.from-count.result (length (joined_before canvas (canvas 0 0) w c.args.h y)) (corners_before canvas (canvas 0 0) y w) (length (joined_before canvas (canvas 0 0) w c.args.h (y + 1))) c.loop-y.invariant.so_far (c.from-count.ensures ∙ (row ∙ same)) more;
    }
  where
    added : (count new before corners after : ℕ) → count ≤ before → new ≡ corners → before + corners ≤ after → count + new ≤ after
    added count new before corners after a b d = omega arith
