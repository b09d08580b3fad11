-- A piece that ends inside the pixels of a Raw rectangle.
use Rattle.std.proofs.Common.{ℕ, ◌<◌, false, List, length, Ok, sym, subst}
use Rattle.byte_reading.specs.Reading.{Reading, after}
use Rattle.raster.specs.declared.rect.Rect.{Rect}
use Rattle.raster.specs.Screen.{Canvas, part_of}
use Rattle.raster.specs.Update.{Paint}
use Rattle.painter.specs.Drawing.{IsPaintedAround, IsSameAround, drawn}
use Rattle.painter.specs.Painter.{Painting, worked}
use Rattle.host_decoder.specs.Data.{Fed, RawStands, RawTakes}
use Rattle.host_decoder.specs.DataParts.{RawProgress}
use Rattle.host_decoder.proofs.Drawn.{still_around}
use Rattle.host_decoder.proofs.RawPieces.{wants_pixels}

-- All of it is taken, and the rectangle wants another byte.
pub fed_within : (start : Canvas) (paints : List Paint) (p : RawProgress) (old new : Painting) (reading : Reading Paint) (piece : List ℕ) → IsPaintedAround start paints old.area old → IsSameAround old new → length p.begun < 4 → p.done < p.count
    → RawTakes old.area p (drawn new) reading piece → Fed (λ next. IsPaintedAround start paints old.area new × RawStands old.area p (part_of old.area (worked new)) next) start paints new reading piece (Ok (length piece, false))
fed_within start paints p old new reading piece around same short more t =
    let shown : RawStands old.area p (part_of old.area (worked new)) (after reading piece) = subst (λ (a : Rect). RawStands old.area p (part_of a (worked new)) (after reading piece)) same.area t.stands in
    ((still_around start paints old new same around, shown), wants_pixels old.area p (drawn new) (after reading piece) short more t.stands, sym t.all)
