use Rattle.std.proofs.Common.{◌≡◌, length, map}
use Rattle.std.specs.Int.{w32, from_le_bytes}
use Rattle.raster.specs.Screen.{LooksLike, value_at, lay, kept}
use Rattle.raster.proofs.canvas.Canvas.put_bytes.Given as goal

abbrev pub invariant-loop-i : goal.invariant-loop-i
invariant-loop-i g l =
    record {
      width : g.Self.Canvas.width l.self ≡ g.Self.Canvas.width l.fn.self;
      height : g.Self.Canvas.height l.self ≡ g.Self.Canvas.height l.fn.self;
      stays : g.Self.Canvas.Stays l.fn.self l.self;
      shows : LooksLike (g.Self.Canvas.width l.fn.self) (g.Self.Canvas.height l.fn.self) (g.Self.Canvas.shows l.self) (lay (record { x = l.x; y = l.y; w = l.i; h = 1 }) (kept g.Self.Canvas.keeps (value_at (length l.values) (map (from_le_bytes w32) l.values))) (g.Self.Canvas.shows l.fn.self));
    }
