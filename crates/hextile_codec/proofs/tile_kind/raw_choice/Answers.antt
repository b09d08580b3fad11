use Rattle.std.proofs.Common.{◌≡◌, ◌+◌, ◌*◌, ◌/◌, ◌%◌, ◌<◌, ◌≤◌, ℕ, List, length, refl, ap, arith}
use Rattle.std.proofs.Math.Nat.{mul-le-mul_left, mod-lt, mod-add-div'}
use Rattle.pixel_format.specs.PixelFormat.{PixelFormat, pixel_len}
use Rattle.raster.specs.declared.rect.Rect.{Rect}
use Rattle.raster.specs.Encoding.{Subrect, drawn_bytes}
use Rattle.joined_runs.specs.Joined.{background_of, subrects_of}
use Rattle.hextile_codec.specs.TileKinds.{enough_of}
use Rattle.hextile_codec.proofs.Drawings.{chosen_raw, mixed_least}
use Rattle.hextile_codec.proofs.tile_kind.raw_choice.Goals as goal

-- More runs than Raw's bytes hold.
too_many : (raw p n d enough : ℕ) → enough ≡ raw / (p + 2) + 1 → enough ≤ n → (p + 2) * n ≤ d → raw ≤ d
too_many raw p n d enough is le least =
    let q : ℕ = raw / (p + 2) in
    let more : (p + 2) * (q + 1) ≤ (p + 2) * n = mul-le-mul_left (p + 2) (omega arith) in
    let split = mod-add-div' raw (p + 2) in
    let left : raw % (p + 2) < p + 2 = mod-lt raw (omega arith) in
    let above : raw < (p + 2) * (q + 1) = omega (arith, split) in
    omega (arith, more, above)

pub returns-clause-least : goal.returns-clause-least
returns-clause-least c form canvas found before le =
    let format : PixelFormat = c.args.format.now in
    let tile : Rect = c.args.tile.now in
    let size : 1 + c.bytes.result * (tile.w * tile.h) ≡ 1 + pixel_len format * (tile.w * tile.h) = ap (λ n. 1 + n * (tile.w * tile.h)) c.bytes.ensures in
    chosen_raw form format before tile.w tile.h canvas found 0 (1 + c.bytes.result * (tile.w * tile.h)) size le

pub returns-clause-many : goal.returns-clause-many
returns-clause-many c form canvas found before has =
    let format : PixelFormat = c.args.format.now in
    let tile : Rect = c.args.tile.now in
    let p : ℕ = pixel_len format in
    let background : ℕ = background_of form tile.w tile.h canvas in
    let subrects : List Subrect = subrects_of form tile.w tile.h canvas in
    let size : 1 + c.bytes.result * (tile.w * tile.h) ≡ 1 + p * (tile.w * tile.h) = ap (λ n. 1 + n * (tile.w * tile.h)) c.bytes.ensures in
    chosen_raw form format before tile.w tile.h canvas found 0 (1 + c.bytes.result * (tile.w * tile.h)) size
    (too_many (1 + p * (tile.w * tile.h)) p (length subrects) (length (drawn_bytes format before background subrects)) (enough_of format tile.w tile.h) refl has.many (mixed_least format before background subrects has.mixed))
