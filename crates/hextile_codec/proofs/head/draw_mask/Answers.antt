use Rattle.std.proofs.Common.{◌≡◌, ◌∙◌, ap, [], ◌∷◌}
use Rattle.hextile_codec.specs.declared.stage.Stage.{Stage}
use Rattle.hextile_codec.specs.declared.stage.Stage.TheVariants.{Mask, Head}
use Rattle.hextile_codec.specs.Carried.{carried_by}
use Rattle.hextile_codec.specs.Ahead.{blank, tile_rest}
use Rattle.hextile_codec.proofs.LedOn.{led_then}
use Rattle.hextile_codec.proofs.MaskRead.{mask_leads, later_mask}
use Rattle.hextile_codec.proofs.head.draw_mask.Goals as goal

pub returns-in-Head-clause-drawn : goal.returns-in-Head-clause-drawn
returns-in-Head-clause-drawn g c =
    let format = c.args.format.now in
    let area = c.args.area in
    let carried = carried_by c.args.carried in
    let before = g.C.Canvas.shows c.args.canvas.now in
    let is : c.after_mask-stage.result ≡ Head c.in-Head.mask = c.in-Head.is in
    record {
      leads = λ part stands.
          led_then g.C.Canvas.keeps format area carried carried (carried_by c.draw_announced.result.carried) Mask (Head c.in-Head.mask) c.draw_announced.result.stage (c.args.mask ∷ []) [] before (g.C.Canvas.shows c.draw_announced.new.canvas) part
          (mask_leads g.C.Canvas.keeps format area carried c.args.mask (Head c.in-Head.mask) before part tt
          (c.after_mask-stage.ensures.leads format area.w area.h ∙ ap (λ (s : Stage). tile_rest format area.w area.h carried s blank) is))
          c.draw_announced.ensures.drawn.leads;
      later = c.draw_announced.ensures.drawn.later;
    }

pub returns-in_default-clause-drawn : goal.returns-in_default-clause-drawn
returns-in_default-clause-drawn g c =
    record {
      leads = λ part stands.
          mask_leads g.C.Canvas.keeps c.args.format.now c.args.area (carried_by c.args.carried) c.args.mask c.after_mask-stage.result (g.C.Canvas.shows c.args.canvas.now) part c.after_mask-stage.ensures.behind
          (c.after_mask-stage.ensures.leads c.args.format.now c.args.area.w c.args.area.h);
      later = later_mask c.args.format.now c.args.area c.after_mask-stage.result c.after_mask-stage.ensures.behind c.in_default.not-Head;
    }
