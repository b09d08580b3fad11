use Rattle.std.proofs.Common.{◌≡◌, ◌<◌, ◌≤◌, length}
use Rattle.std.specs.Prelude.{◌⊎◌}
use Rattle.raster.specs.Encoding.{Drawing}
use Rattle.rre_codec.specs.Ahead.{IsDrawn}
use Rattle.rre_codec.proofs.LedOn.{HasLed}
use Rattle.rre_codec.proofs.reading.draw_fields.Given as goal

abbrev pub invariant-loop-rest : goal.invariant-loop-rest
invariant-loop-rest g l =
    record {
      within : length l.rest ≤ length l.bytes;
      begun : (length l.rest < length l.bytes) ⊎ ((l.rest ≡ l.bytes) × (l.stage ≡ l.fn.stage));
      width : g.C.Canvas.width l.canvas ≡ l.w;
      height : g.C.Canvas.height l.canvas ≡ l.h;
      stays : g.C.Canvas.Stays l.fn.canvas l.canvas;
      drawn : (sofar : Drawing) → IsDrawn g.C.Canvas.keeps l.w l.h l.fn.stage (g.C.Canvas.shows l.fn.canvas) sofar → HasLed g.C.Canvas.keeps l.format l.w l.h l.fn.stage l.stage l.bytes l.rest (g.C.Canvas.shows l.canvas) sofar;
    }

abbrev pub decreases-loop-rest : goal.decreases-loop-rest
decreases-loop-rest g l = length l.rest
