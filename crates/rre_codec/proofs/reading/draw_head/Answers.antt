use Rattle.std.proofs.Common.{◌≡◌, ℕ, ◌∙◌, [], take, drop, refl, ap, arith}
use Rattle.std.specs.Int.{w32, from_be_bytes}
use Rattle.pixel_format.specs.PixelFormat.{pixel_of}
use Rattle.raster.specs.Screen.{fill}
use Rattle.rre_codec.specs.declared.stage.Stage.TheVariants.{Head}
use Rattle.rre_codec.proofs.Steps.{stage_takes, head_read, background_drawn}
use Rattle.rre_codec.proofs.reading.draw_head.Goals as goal

pub returns-clause-drawn : goal.returns-clause-drawn
returns-clause-drawn g c sofar stands =
    let v : ℕ = pixel_of c.args.format.now (drop 4 c.args.bytes.now) in
    let count : c.from_be_bytes-count.result ≡ from_be_bytes w32 (take 4 c.args.bytes.now) = c.from_be_bytes-count.ensures ∙ ap (λ t. from_be_bytes w32 t) c.split_at.ensures.front in
    let value : c.get_pixel.result ≡ v = c.get_pixel.ensures ∙ ap (pixel_of c.args.format.now) c.split_at.ensures.back in
    record {
      drawing = record { background = v; subrects = [] };
      takes = stage_takes c.args.format.now c.args.w c.args.h Head sofar c.args.bytes.now refl c.requires.count;
      reads = rw count (head_read c.args.format.now c.args.w c.args.h c.args.bytes.now c.requires.count);
      shows = background_drawn g.C.Canvas.keeps c.args.w c.args.h v (g.C.Canvas.shows c.args.canvas.now) (g.C.Canvas.shows c.fill.new.self)
          (λ x y lx ly. c.fill.ensures.shows x y (omega (arith, c.requires.width)) (omega (arith, c.requires.height)) ∙ ap (λ u. fill (record { x = 0; y = 0; w = c.args.w; h = c.args.h }) (g.C.Canvas.keeps u) (g.C.Canvas.shows c.args.canvas.now) x y) value);
    }
