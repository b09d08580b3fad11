use Rattle.std.proofs.Common.{[], length, refl, sym, arith, ap, ◌∙◌, map}
use Rattle.std.proofs.lemmas.List.{get_or-map}
use Rattle.std.specs.Int.{w32, from_le_bytes}
use Rattle.raster.specs.Screen.{value_at, kept}
use Rattle.raster.proofs.Rows.{lay_nothing, lay_one_more}
use Rattle.raster.proofs.canvas.Canvas.put_bytes.Goals as goal

pub loop-i-init : goal.loop-i-init
loop-i-init g c =
    record {
      width = refl;
      height = refl;
      stays = g.met.Self.Canvas.stays_at_once c.args.self.now;
      shows = lay_nothing (g.Self.Canvas.width c.args.self.now) (g.Self.Canvas.height c.args.self.now) c.args.x c.args.y (kept g.Self.Canvas.keeps (value_at (length c.args.values.now) (map (from_le_bytes w32) c.args.values.now))) (g.Self.Canvas.shows c.args.self.now);
    }

pub loop-i-preserved : goal.loop-i-preserved
loop-i-preserved g c =
    let width = c.put.ensures.width ∙ c.loop-i.invariant.width in
    let height = c.put.ensures.height ∙ c.loop-i.invariant.height in
    record {
      width = width;
      height = height;
      stays = g.met.Self.Canvas.stays_then c.args.self.now c.loop-i.self c.put.new.self c.loop-i.invariant.stays c.put.ensures.stays;
      shows = lay_one_more (g.Self.Canvas.width c.args.self.now) (g.Self.Canvas.height c.args.self.now) c.args.x c.args.y c.loop-i.i (length c.args.values.now) (g.Self.Canvas.keeps c.from_le_bytes.result) g.Self.Canvas.keeps
          (map (from_le_bytes w32) c.args.values.now) (g.Self.Canvas.shows c.args.self.now) (g.Self.Canvas.shows c.loop-i.self) (g.Self.Canvas.shows c.put.new.self)
          (ap g.Self.Canvas.keeps (c.from_le_bytes.ensures ∙ sym (get_or-map (from_le_bytes w32) c.args.values.now c.loop-i.i [] 0 (omega arith)))) c.loop-i.invariant.shows
          (λ x y lx ly. c.put.ensures.shows x y (omega (arith, c.loop-i.invariant.width)) (omega (arith, c.loop-i.invariant.height)));
    }
