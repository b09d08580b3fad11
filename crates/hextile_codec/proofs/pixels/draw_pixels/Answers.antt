use Rattle.std.proofs.Common.{◌≡◌, ◌∙◌, ap, refl, ℕ, ◌+◌, ◌-◌, ◌*◌, ◌/◌, ◌%◌, ◌<◌, ◌≤◌, List, take, length, arith}
use Rattle.std.proofs.lemmas.List.{length-take}
use Rattle.std.proofs.Math.Nat.{le-div_iff_mul-le, mul-le-mul_right}
use Rattle.pixel_format.specs.PixelFormat.{pixel_len}
use Rattle.raster.specs.Screen.{value_at, kept}
use Rattle.hextile_codec.specs.declared.stage.Stage.TheVariants.{RawPixels}
use Rattle.hextile_codec.specs.Carried.{carried_by}
use Rattle.hextile_codec.specs.Ahead.{pixels_in}
use Rattle.hextile_codec.proofs.LedOn.{has_led_none, has_led_more, has_led_all}
use Rattle.hextile_codec.proofs.RowRead.{pixel_some, next_is, row_part, still_inside, row_leads}
use Rattle.hextile_codec.proofs.TileDrawn.{keeps_then, lay_keeps}
use Rattle.hextile_codec.proofs.pixels.draw_pixels.Goals as goal

pub loop-count-init : goal.loop-count-init
loop-count-init g c =
    record {
      within = omega arith;
      more = omega arith;
      most = omega (arith, c.requires.some);
      first = λ _. refl;
      later = λ lt. absurd (omega arith);
      canvas = record { width = refl; height = refl; keeps = λ x y lx ly e. refl };
      stays = g.met.C.Canvas.stays_at_once c.args.canvas.now;
      drawn = λ part shows. has_led_none g.C.Canvas.keeps c.args.format.now c.args.area (carried_by c.args.carried) (RawPixels c.args.come) c.args.bytes.now (g.C.Canvas.shows c.args.canvas.now) part shows;
    }

pub loop-count-preserved : goal.loop-count-preserved
loop-count-preserved g c =
    let format = c.args.format.now in
    let area = c.args.area in
    let carried = carried_by c.args.carried in
    let i = c.loop-count.invariant in
    let w : ℕ = g.C.Canvas.width c.args.canvas.now in
    let h : ℕ = g.C.Canvas.height c.args.canvas.now in
    let size : ℕ = c.bytes-size.result in
    let p : ℕ = pixel_len format in
    let is_size : size ≡ p = c.bytes-size.ensures in
    let count : ℕ = c.loop-count.count in
    let n : ℕ = c.pixels_upto-now.result in
    let rest : List ℕ = c.loop-count.rest.now in
    let lt : count < area.w * area.h = c.loop-count-test.true in
    let least : n ≤ area.w - count % area.w = omega (arith, c.pixels_upto-now.ensures) in
    let tests : 1 * size ≤ length rest = omega (arith, c.if-size-rest.true) in
    let size_some : 0 < size = omega (arith, pixel_some format, is_size) in
    let one : 1 ≤ length rest / size = (le-div_iff_mul-le {k = size} {x = 1} {y = length rest} size_some).1 tests in
    let next = next_is area.w area.h count c.requires.tile.wide.0 lt in
    let some : 0 < n = omega (arith, c.pixels_upto-now.ensures, one, next.column) in
    let fills : 1 * size ≤ n * size = mul-le-mul_right {m = 1} {n = n} size some in
    let before = g.C.Canvas.shows c.loop-count.canvas in
    let now = g.C.Canvas.shows c.draw_row.new.canvas in
    let bs : List ℕ = take (n * size) rest in
    let upto : n * size ≤ length rest = (le-div_iff_mul-le {k = size} {x = n} {y = length rest} size_some).0 (omega (arith, c.pixels_upto-now.ensures)) in
    let len : length bs ≡ n * p = omega (arith, length-take (n * size) rest, upto, ap (λ k. n * k) is_size) in
    let shows = rw (i.canvas.width, i.canvas.height, c.split_at.ensures.front) at c.draw_row.ensures.shows in
    record {
      within = omega (arith, c.split_at.ensures.back_len, i.within);
      more = omega (arith, i.more);
      most = still_inside area.w area.h count n c.requires.tile.wide.0 lt least;
      first = λ e. absurd (omega (arith, i.more, some, e));
      later = λ _. omega (arith, c.split_at.ensures.back_len, i.within, is_size, fills);
      canvas = record {
        width = c.draw_row.ensures.width ∙ i.canvas.width;
        height = c.draw_row.ensures.height ∙ i.canvas.height;
        keeps =
            keeps_then area w h (g.C.Canvas.shows c.args.canvas.now) before now i.canvas.keeps
            (lay_keeps area (record { x = count % area.w; y = count / area.w; w = n; h = 1 }) (kept g.C.Canvas.keeps (value_at n (pixels_in format n bs))) w h before now (record { across = omega (arith, least, next.column); down = omega (arith, next.row) }) shows);
      };
      stays = g.met.C.Canvas.stays_then c.args.canvas.now c.loop-count.canvas c.draw_row.new.canvas i.stays c.draw_row.ensures.stays;
      drawn = λ part was.
          rw c.split_at.ensures.back
          (has_led_more g.C.Canvas.keeps format area carried carried carried (RawPixels c.args.come) (RawPixels count) (RawPixels (count + n)) c.args.bytes.now rest (n * size) before now part (i.drawn part was)
          (λ q stands. row_leads g.C.Canvas.keeps format area carried w h count n q before now bs c.requires.tile lt least len shows stands));
    }

pub overflow_mul-now : goal.overflow_mul-now
overflow_mul-now g c =
    let p = row_part c.args.area.w c.args.area.h c.loop-count.count c.pixels_upto-now.result (length c.loop-count.rest.now) c.bytes-size.result (pixel_some c.args.format.now) c.bytes-size.ensures c.requires.tile.wide.0 c.loop-count-test.true c.if-size-rest.true c.pixels_upto-now.ensures in
    omega (arith, p.upto, c.loop-count.invariant.within)

pub returns-clause-drawn : goal.returns-clause-drawn
returns-clause-drawn g c =
    record {
      leads = λ part was.
          has_led_all g.C.Canvas.keeps c.args.format.now c.args.area (carried_by c.args.carried) (carried_by c.args.carried) (RawPixels c.args.come) (RawPixels c.loop-count.count) c.args.bytes.now c.loop-count.rest.now (g.C.Canvas.shows c.loop-count.canvas) part (c.loop-count.invariant.drawn part was);
      later = c.loop-count.invariant.most;
    }

pub draw_row-requires-clause-down : goal.draw_row-requires-clause-down
draw_row-requires-clause-down g c =
    let next = next_is c.args.area.w c.args.area.h c.loop-count.count c.requires.tile.wide.0 c.loop-count-test.true in
    omega (arith, next.row, c.requires.tile.within, c.loop-count.invariant.canvas.height)

pub loop-count-smaller : goal.loop-count-smaller
loop-count-smaller g c =
    let p = row_part c.args.area.w c.args.area.h c.loop-count.count c.pixels_upto-now.result (length c.loop-count.rest.now) c.bytes-size.result (pixel_some c.args.format.now) c.bytes-size.ensures c.requires.tile.wide.0 c.loop-count-test.true c.if-size-rest.true c.pixels_upto-now.ensures in
    omega (arith, c.split_at.ensures.back_len, p.upto, p.fills, c.if-size-rest.true)

pub draw_row-requires-clause-bytes : goal.draw_row-requires-clause-bytes
draw_row-requires-clause-bytes g c =
    omega (arith, c.split_at.ensures.front_len, ap (λ k. c.pixels_upto-now.result * k) c.bytes-size.ensures)

pub split_at-requires : goal.split_at-requires
split_at-requires g c =
    let p = row_part c.args.area.w c.args.area.h c.loop-count.count c.pixels_upto-now.result (length c.loop-count.rest.now) c.bytes-size.result (pixel_some c.args.format.now) c.bytes-size.ensures c.requires.tile.wide.0 c.loop-count-test.true c.if-size-rest.true c.pixels_upto-now.ensures in
    p.upto

pub overflow_add-area-in-loop-count : goal.overflow_add-area-in-loop-count
overflow_add-area-in-loop-count g c =
    let next = next_is c.args.area.w c.args.area.h c.loop-count.count c.requires.tile.wide.0 c.loop-count-test.true in
    omega (arith, next.row, c.requires.tile.small, c.requires.tile.high)

pub overflow_add-count : goal.overflow_add-count
overflow_add-count g c =
    let p = row_part c.args.area.w c.args.area.h c.loop-count.count c.pixels_upto-now.result (length c.loop-count.rest.now) c.bytes-size.result (pixel_some c.args.format.now) c.bytes-size.ensures c.requires.tile.wide.0 c.loop-count-test.true c.if-size-rest.true c.pixels_upto-now.ensures in
    let still = still_inside c.args.area.w c.args.area.h c.loop-count.count c.pixels_upto-now.result c.requires.tile.wide.0 c.loop-count-test.true p.least in
    let few : c.args.area.w * c.args.area.h ≤ 16 * c.args.area.h = mul-le-mul_right {m = c.args.area.w} {n = 16} c.args.area.h c.requires.tile.wide.1 in
    omega (arith, still, few, c.requires.tile.high)
