use Rattle.std.proofs.Common.{◌≡◌, ℕ, Bool, List, [], ◌∷◌, ◌+◌, ◌*◌, ◌<◌, ◌^◌, get_or}
use Rattle.hextile_codec.specs.Places.{changes_at}
use Rattle.std.specs.Int.{bit_at}
use Rattle.raster.specs.Screen.{Canvas, value_at, part_of}
use Rattle.hextile_codec.specs.Bits.{bit_of}
use Rattle.hextile_codec.proofs.FourWords.{are_bits}
use Rattle.hextile_codec.proofs.RowMarks.{by_four}
use Rattle.hextile_codec.proofs.tile_marks.find_changes.Goals as goal

pub returns : goal.returns
returns c =
    let canvas : Canvas = part_of c.args.tile.now (value_at c.args.w c.args.values.now) in
    let test : ℕ → ℕ → Bool = changes_at canvas in
    let words : List ℕ = c.four_changes.result ∷ c.four_changes-2.result ∷ c.four_changes-3.result ∷ c.four_changes-4.result ∷ [] in
    are_bits test words
    (by_four (λ k. (r x : ℕ) → r < 4 → x < 16 → bit_at (get_or words k 0) (16 * r + x) ≡ bit_of (test (4 * k + r) x)) c.four_changes.ensures.bits c.four_changes-2.ensures.bits c.four_changes-3.ensures.bits c.four_changes-4.ensures.bits)
    (by_four (λ k. get_or words k 0 < 2 ^ 64) c.four_changes.ensures.few c.four_changes-2.ensures.few c.four_changes-3.ensures.few c.four_changes-4.ensures.few)
