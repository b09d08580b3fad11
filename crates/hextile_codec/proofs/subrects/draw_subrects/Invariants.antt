use Rattle.std.proofs.Common.{◌≡◌, ◌+◌, ◌<◌, ◌≤◌, length}
use Rattle.hextile_codec.specs.declared.stage.Stage.TheVariants.{Subrects}
use Rattle.hextile_codec.specs.Carried.{carried_by}
use Rattle.hextile_codec.specs.Ahead.{Part, DrawsIn, IsDrawn, colour_len}
use Rattle.hextile_codec.proofs.LedOn.{HasLed}
use Rattle.hextile_codec.proofs.subrects.draw_subrects.Given as goal

abbrev pub invariant-loop-left : goal.invariant-loop-left
invariant-loop-left g l =
    record {
      within : length l.rest ≤ length l.bytes;
      less : l.left ≤ l.fn.left;
      first : l.left ≡ l.fn.left → l.rest ≡ l.bytes;
      later : l.left < l.fn.left → colour_len l.fn.format l.fn.coloured + 2 + length l.rest ≤ length l.bytes;
      canvas : DrawsIn l.fn.area (g.C.Canvas.width l.fn.canvas) (g.C.Canvas.height l.fn.canvas) (g.C.Canvas.shows l.fn.canvas) (g.C.Canvas.width l.canvas) (g.C.Canvas.height l.canvas) (g.C.Canvas.shows l.canvas);
      stays : g.C.Canvas.Stays l.fn.canvas l.canvas;
      drawn : (part : Part) → IsDrawn g.C.Canvas.keeps l.fn.area (Subrects l.fn.coloured l.fn.left) (g.C.Canvas.shows l.fn.canvas) part
          → HasLed g.C.Canvas.keeps l.fn.format l.fn.area (carried_by l.fn.carried) (carried_by l.fn.carried) (Subrects l.fn.coloured l.fn.left) (Subrects l.fn.coloured l.left) l.bytes l.rest (g.C.Canvas.shows l.canvas) part;
    }

abbrev pub decreases-loop-left : goal.decreases-loop-left
decreases-loop-left g l = l.left
