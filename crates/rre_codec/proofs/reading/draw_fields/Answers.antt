use Rattle.std.proofs.Common.{ℕ, List, refl, inl, inr, arith}
use Rattle.rre_codec.proofs.LedOn.{has_led_none, has_led_more}
use Rattle.rre_codec.proofs.Steps.{needs_some}
use Rattle.rre_codec.proofs.reading.draw_fields.Goals as goal

pub loop-rest-init : goal.loop-rest-init
loop-rest-init g c =
    record {
      within = omega arith;
      begun = inr (refl, refl);
      width = c.requires.width;
      height = c.requires.height;
      stays = g.met.C.Canvas.stays_at_once c.args.canvas.now;
      drawn = λ sofar shows. has_led_none g.C.Canvas.keeps c.args.format.now c.args.w c.args.h c.args.stage c.args.bytes.now (g.C.Canvas.shows c.args.canvas.now) sofar shows;
    }

pub loop-rest-preserved : goal.loop-rest-preserved
loop-rest-preserved g c =
    let i = c.loop-rest.invariant in
    let n : ℕ = c.needed-in-loop-rest.result in
    let some = needs_some c.args.format.now c.loop-rest.stage in
    let rest : List ℕ = c.loop-rest.rest.now in
    record {
      within = omega (arith, c.split_at.ensures.back_len, i.within);
      begun = inl (omega (arith, c.split_at.ensures.back_len, i.within, some, c.needed-in-loop-rest.ensures.value, c.needed.ensures.value, c.if-needed-rest.true));
      width = c.draw-stage.ensures.width;
      height = c.draw-stage.ensures.height;
      stays = g.met.C.Canvas.stays_then c.args.canvas.now c.loop-rest.canvas c.draw-stage.new.canvas i.stays c.draw-stage.ensures.stays;
      drawn = λ sofar shows.
          rw c.split_at.ensures.back
          (has_led_more g.C.Canvas.keeps c.args.format.now c.args.w c.args.h c.args.stage c.loop-rest.stage c.draw-stage.result c.args.bytes.now rest n (g.C.Canvas.shows c.loop-rest.canvas) (g.C.Canvas.shows c.draw-stage.new.canvas) sofar (i.drawn sofar shows)
          (rw c.split_at.ensures.front at c.draw-stage.ensures.drawn));
    }
