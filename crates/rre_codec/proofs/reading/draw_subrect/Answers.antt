use Rattle.std.proofs.Common.{◌≡◌, ◌∙◌, take, drop, ap, arith, sym, true, false}
use Rattle.pixel_format.specs.PixelFormat.{pixel_of}
use Rattle.raster.specs.declared.rect.Rect.{Rect}
use Rattle.raster.specs.Screen.{is_within, fill}
use Rattle.raster.specs.Encoding.{Subrect, rect_in}
use Rattle.raster.proofs.RreLaws.{with_subrect}
use Rattle.std.proofs.lemmas.Bool.{lt-ltb}
use Rattle.rre_codec.specs.declared.stage.Stage.TheVariants.{Subrects}
use Rattle.rre_codec.proofs.Steps.{stage_takes, subrect_in, inside_read, outside_read, subrect_drawn}
use Rattle.rre_codec.proofs.reading.draw_subrect.Goals as goal

pub returns-then-not-within-clause-drawn : goal.returns-then-not-within-clause-drawn
returns-then-not-within-clause-drawn g c sofar stands =
    let s : Subrect = subrect_in c.args.format.now c.args.bytes.now in
    let area : c.read-area.result ≡ s.area = c.read-area.ensures.value ∙ ap rect_in (c.split_at.ensures.back ∙ ap (λ p. drop p c.args.bytes.now) c.bytes.ensures) in
    let out : is_within s.area c.args.w c.args.h ≡ false = sym (ap (λ (r : Rect). is_within r c.args.w c.args.h) area) ∙ (sym c.within.ensures ∙ c.if-not-within.true) in
    record { drawing = sofar; takes = stage_takes c.args.format.now c.args.w c.args.h (Subrects c.args.left) sofar c.args.bytes.now (lt-ltb 0 c.args.left c.requires.some) c.requires.count; reads = outside_read c.args.format.now c.args.w c.args.h sofar c.args.left c.args.bytes.now c.requires.some c.requires.count out; shows = tt }

pub returns-clause-drawn : goal.returns-clause-drawn
returns-clause-drawn g c sofar stands =
    let s : Subrect = subrect_in c.args.format.now c.args.bytes.now in
    let area : c.read-area.result ≡ s.area = c.read-area.ensures.value ∙ ap rect_in (c.split_at.ensures.back ∙ ap (λ p. drop p c.args.bytes.now) c.bytes.ensures) in
    let value : c.get_pixel.result ≡ s.value = c.get_pixel.ensures ∙ ap (pixel_of c.args.format.now) (c.split_at.ensures.front ∙ ap (λ p. take p c.args.bytes.now) c.bytes.ensures) in
    let inside : is_within s.area c.args.w c.args.h ≡ true = sym (ap (λ (r : Rect). is_within r c.args.w c.args.h) area) ∙ (sym c.within.ensures ∙ c.if-not-within.false) in
    record {
      drawing = with_subrect sofar s;
      takes = stage_takes c.args.format.now c.args.w c.args.h (Subrects c.args.left) sofar c.args.bytes.now (lt-ltb 0 c.args.left c.requires.some) c.requires.count;
      reads = inside_read c.args.format.now c.args.w c.args.h sofar c.args.left c.args.bytes.now c.requires.some c.requires.count inside;
      shows = subrect_drawn g.C.Canvas.keeps c.args.w c.args.h sofar s (g.C.Canvas.shows c.args.canvas.now) (g.C.Canvas.shows c.fill.new.self) stands
          (λ x y lx ly. c.fill.ensures.shows x y (omega (arith, c.requires.width)) (omega (arith, c.requires.height))
          ∙ (ap (λ (r : Rect). fill r (g.C.Canvas.keeps c.get_pixel.result) (g.C.Canvas.shows c.args.canvas.now) x y) area ∙ ap (λ u. fill s.area (g.C.Canvas.keeps u) (g.C.Canvas.shows c.args.canvas.now) x y) value));
    }
