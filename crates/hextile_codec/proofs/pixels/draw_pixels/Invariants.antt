use Rattle.std.proofs.Common.{◌≡◌, ◌+◌, ◌*◌, ◌<◌, ◌≤◌, length}
use Rattle.pixel_format.specs.PixelFormat.{pixel_len}
use Rattle.hextile_codec.specs.declared.stage.Stage.TheVariants.{RawPixels}
use Rattle.hextile_codec.specs.Carried.{carried_by}
use Rattle.hextile_codec.specs.Ahead.{Part, DrawsIn, IsDrawn}
use Rattle.hextile_codec.proofs.LedOn.{HasLed}
use Rattle.hextile_codec.proofs.pixels.draw_pixels.Given as goal

abbrev pub invariant-loop-count : goal.invariant-loop-count
invariant-loop-count g l =
    record {
      within : length l.rest ≤ length l.bytes;
      more : l.fn.come ≤ l.count;
      most : l.count ≤ l.fn.area.w * l.fn.area.h;
      first : l.count ≡ l.fn.come → l.rest ≡ l.bytes;
      later : l.fn.come < l.count → pixel_len l.fn.format + length l.rest ≤ length l.bytes;
      canvas : DrawsIn l.fn.area (g.C.Canvas.width l.fn.canvas) (g.C.Canvas.height l.fn.canvas) (g.C.Canvas.shows l.fn.canvas) (g.C.Canvas.width l.canvas) (g.C.Canvas.height l.canvas) (g.C.Canvas.shows l.canvas);
      stays : g.C.Canvas.Stays l.fn.canvas l.canvas;
      drawn : (part : Part) → IsDrawn g.C.Canvas.keeps l.fn.area (RawPixels l.fn.come) (g.C.Canvas.shows l.fn.canvas) part
          → HasLed g.C.Canvas.keeps l.fn.format l.fn.area (carried_by l.fn.carried) (carried_by l.fn.carried) (RawPixels l.fn.come) (RawPixels l.count) l.bytes l.rest (g.C.Canvas.shows l.canvas) part;
    }

abbrev pub decreases-loop-count : goal.decreases-loop-count
decreases-loop-count g l = length l.rest
