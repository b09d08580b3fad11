-- A rectangle in ZRLE is read as it was spelled, and so is the header of an update.
use Rattle.std.proofs.Common.{ℕ, suc, ◌^◌, ◌<◌, List, ◌++◌, length, refl, ap, arith}
use Rattle.std.specs.Int.{w32, to_be_bytes}
use Rattle.byte_reading.specs.Reading.{Done, ◌>>=◌, bytes, u32, Spells}
use Rattle.raster.specs.declared.rect.Rect.{Rect}
use Rattle.raster.specs.Encoding.{rect, rect_bytes}
use Rattle.raster.specs.Screen.{IsWithin}
use Rattle.raster.proofs.Pixels.{spells_u16, spells_u32}
use Rattle.raster.proofs.RreSpelled.{spells_rect}
use Rattle.raster.proofs.Spellings.{spells_bind, spells_bytes, spells_then}
use Rattle.rfb_wire.specs.Writing.{update_head_bytes}
use Rattle.zrle_answer.specs.Rectangle.{zrle_data_bytes, zrle_rectangle, zrle_rectangle_bytes}
use Rattle.zrle_answer.specs.Reading.{update_head}
use Rattle.zrle_answer.proofs.OneReading.{numbered, with_data}

pub zrle_is_read : (area : Rect) (zlib_data : List ℕ) (w h : ℕ) → w < 2 ^ 16 → h < 2 ^ 16 → IsWithin area w h → length zlib_data < 2 ^ 32 → Spells zrle_rectangle (zrle_rectangle_bytes area zlib_data) (area, zlib_data)
zrle_is_read area zlib_data w h lw lh inside few =
    let z : Rect × List ℕ = (area, zlib_data) in
    let n : ℕ = length zlib_data in
    let counted : Spells (u32 >>= with_data area) (zrle_data_bytes zlib_data) z =
    spells_bind u32 (with_data area) (to_be_bytes w32 n) zlib_data n z (spells_u32 n few) (spells_then (bytes n) (λ d. Done (area, d)) zlib_data zlib_data z (spells_bytes zlib_data) refl) in
    spells_bind rect (λ a. u32 >>= numbered a) (rect_bytes area) (to_be_bytes w32 16 ++ zrle_data_bytes zlib_data) area z
    (spells_rect area (omega (arith, inside.across)) (omega (arith, inside.down)) (omega (arith, inside.across)) (omega (arith, inside.down)))
    (spells_bind u32 (numbered area) (to_be_bytes w32 16) (zrle_data_bytes zlib_data) 16 z (spells_u32 16 (omega arith)) counted)

pub head_is_read : (count : ℕ) → count < 2 ^ 16 → Spells update_head (update_head_bytes count) count
head_is_read count few = let k = spells_u16 count few in record { whole = ap suc (ap suc k.whole); says = k.says }
