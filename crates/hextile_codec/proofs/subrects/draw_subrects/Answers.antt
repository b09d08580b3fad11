use Rattle.std.proofs.Common.{◌≡◌, ◌∙◌, ap, sym, refl, ℕ, ◌+◌, ◌-◌, ◌<◌, true, false, List, take, drop, length, arith}
use Rattle.std.specs.Prelude.{slice_index, unwrap_or}
use Rattle.std.proofs.lemmas.List.{length-take}
use Rattle.raster.specs.Screen.{is_within}
use Rattle.hextile_codec.specs.declared.stage.Flaw.TheVariants as flaw
use Rattle.hextile_codec.specs.declared.stage.Stage.TheVariants.{Subrects, Failed}
use Rattle.hextile_codec.specs.Carried.{carried_by}
use Rattle.hextile_codec.specs.Ahead.{colour_in, colour_len, place_in}
use Rattle.hextile_codec.proofs.LedOn.{has_led_none, has_led_more, has_led_all}
use Rattle.hextile_codec.proofs.SubrectRead.{subrect_in, subrect_leads, subrect_fails}
use Rattle.hextile_codec.proofs.TileDrawn.{keeps_then}
use Rattle.hextile_codec.proofs.subrects.draw_subrects.Goals as goal

pub loop-left-init : goal.loop-left-init
loop-left-init g c =
    record {
      within = omega arith;
      less = omega arith;
      first = λ _. refl;
      later = λ lt. absurd (omega arith);
      canvas = record { width = refl; height = refl; keeps = λ x y lx ly e. refl };
      stays = g.met.C.Canvas.stays_at_once c.args.canvas.now;
      drawn = λ part shows. has_led_none g.C.Canvas.keeps c.args.format.now c.args.area (carried_by c.args.carried) (Subrects c.args.coloured c.args.left) c.args.bytes.now (g.C.Canvas.shows c.args.canvas.now) part shows;
    }

pub loop-left-preserved : goal.loop-left-preserved
loop-left-preserved g c =
    let format = c.args.format.now in
    let area = c.args.area in
    let carried = carried_by c.args.carried in
    let coloured = c.args.coloured in
    let i = c.loop-left.invariant in
    let n : ℕ = c.needed-needed.result in
    let size : n ≡ colour_len format coloured + 2 = c.needed-needed.ensures.value in
    let rest : List ℕ = c.loop-left.rest.now in
    let bs : List ℕ = take n rest in
    let left : ℕ = c.loop-left.left in
    let before = g.C.Canvas.shows c.loop-left.canvas in
    let now = g.C.Canvas.shows c.draw_subrect.new.canvas in
    let count : colour_len format coloured + 2 ≡ length bs = omega (arith, length-take n rest, size, c.if-needed-rest.true) in
    let place = c.specified-value.ensures.rest ∙ ap (λ t. drop (colour_len format coloured) t) c.split_at.ensures.front in
    let inside : is_within (subrect_in format coloured carried bs).area area.w area.h ≡ true =
    sym (ap (λ t. is_within (place_in (slice_index t 0) (slice_index t 1)) area.w area.h) place) ∙ (sym c.draw_subrect.ensures.inside ∙ c.if-not-draw_subrect.false) in
    let value : c.unwrap_or.result ≡ (subrect_in format coloured carried bs).value =
    c.unwrap_or.ensures ∙ ap (λ v. unwrap_or v 0) (c.specified-value.ensures.colour ∙ ap (colour_in format coloured c.args.carried.foreground) c.split_at.ensures.front) in
    let shows = rw (place, value) at (c.draw_subrect.ensures.drawn c.if-not-draw_subrect.false) in
    let some : 0 < left = c.loop-left-test.true in
    record {
      within = omega (arith, c.split_at.ensures.back_len, i.within);
      less = omega (arith, i.less);
      first = λ e. absurd (omega (arith, i.less, e));
      later = λ lt. omega (arith, c.split_at.ensures.back_len, i.within, size, c.if-needed-rest.true);
      canvas = record {
        width = c.draw_subrect.ensures.canvas.width ∙ i.canvas.width;
        height = c.draw_subrect.ensures.canvas.height ∙ i.canvas.height;
        keeps = keeps_then area (g.C.Canvas.width c.args.canvas.now) (g.C.Canvas.height c.args.canvas.now) (g.C.Canvas.shows c.args.canvas.now) before now i.canvas.keeps (rw (i.canvas.width, i.canvas.height) at c.draw_subrect.ensures.canvas.keeps);
      };
      stays = g.met.C.Canvas.stays_then c.args.canvas.now c.loop-left.canvas c.draw_subrect.new.canvas i.stays c.draw_subrect.ensures.stays;
      drawn = λ part was.
          rw c.split_at.ensures.back
          (has_led_more g.C.Canvas.keeps format area carried carried carried (Subrects coloured c.args.left) (Subrects coloured left) (Subrects coloured (left - 1)) c.args.bytes.now rest n before now part (i.drawn part was)
          (λ p stands. subrect_leads g.C.Canvas.keeps format area coloured carried left p before now bs some count inside shows stands));
    }

pub returns-then-not-draw_subrect-clause-drawn : goal.returns-then-not-draw_subrect-clause-drawn
returns-then-not-draw_subrect-clause-drawn g c =
    let format = c.args.format.now in
    let area = c.args.area in
    let carried = carried_by c.args.carried in
    let coloured = c.args.coloured in
    let i = c.loop-left.invariant in
    let n : ℕ = c.needed-needed.result in
    let size : n ≡ colour_len format coloured + 2 = c.needed-needed.ensures.value in
    let rest : List ℕ = c.loop-left.rest.now in
    let bs : List ℕ = take n rest in
    let left : ℕ = c.loop-left.left in
    let before = g.C.Canvas.shows c.loop-left.canvas in
    let now = g.C.Canvas.shows c.draw_subrect.new.canvas in
    let count : colour_len format coloured + 2 ≡ length bs = omega (arith, length-take n rest, size, c.if-needed-rest.true) in
    let place = c.specified-value.ensures.rest ∙ ap (λ t. drop (colour_len format coloured) t) c.split_at.ensures.front in
    let out : is_within (subrect_in format coloured carried bs).area area.w area.h ≡ false =
    sym (ap (λ t. is_within (place_in (slice_index t 0) (slice_index t 1)) area.w area.h) place) ∙ (sym c.draw_subrect.ensures.inside ∙ c.if-not-draw_subrect.true) in
    record {
      later = tt;
      leads = λ part was.
          rw c.split_at.ensures.back
          (has_led_all g.C.Canvas.keeps format area carried carried (Subrects coloured c.args.left) (Failed flaw.SubrectOutside) c.args.bytes.now (drop n rest) now part
          (has_led_more g.C.Canvas.keeps format area carried carried carried (Subrects coloured c.args.left) (Subrects coloured left) (Failed flaw.SubrectOutside) c.args.bytes.now rest n before now part (i.drawn part was)
          (λ p stands. subrect_fails g.C.Canvas.keeps format area coloured carried left p now bs c.loop-left-test.true count out)));
    }

pub returns-clause-drawn : goal.returns-clause-drawn
returns-clause-drawn g c =
    record {
      later = tt;
      leads = λ part was.
          has_led_all g.C.Canvas.keeps c.args.format.now c.args.area (carried_by c.args.carried) (carried_by c.args.carried) (Subrects c.args.coloured c.args.left) (Subrects c.args.coloured c.loop-left.left) c.args.bytes.now c.loop-left.rest.now (g.C.Canvas.shows c.loop-left.canvas) part
          (c.loop-left.invariant.drawn part was);
    }
