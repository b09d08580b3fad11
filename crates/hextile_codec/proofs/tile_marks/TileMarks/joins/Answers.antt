use Rattle.std.proofs.Common.{◌≡◌, ℕ, Bool, List, [], ◌∷◌, ◌+◌, ◌*◌, ◌<◌, ◌^◌, get_or}
use Rattle.std.specs.Int.{bit_at}
use Rattle.hextile_codec.specs.Bits.{bit_of}
use Rattle.hextile_codec.specs.Places.{joins_at}
use Rattle.hextile_codec.proofs.FourWords.{are_bits}
use Rattle.hextile_codec.proofs.RowMarks.{by_four}
use Rattle.hextile_codec.proofs.tile_marks.TileMarks.joins.Goals as goal

pub returns : goal.returns
returns c canvas are its =
    let test : ℕ → ℕ → Bool = joins_at canvas c.args.self.now.background in
    let words : List ℕ = c.four_joins.result ∷ c.four_joins-2.result ∷ c.four_joins-3.result ∷ c.four_joins-4.result ∷ [] in
    are_bits test words
    (by_four (λ k. (r x : ℕ) → r < 4 → x < 16 → bit_at (get_or words k 0) (16 * r + x) ≡ bit_of (test (4 * k + r) x)) (c.four_joins.ensures.bits canvas are its) (c.four_joins-2.ensures.bits canvas are its) (c.four_joins-3.ensures.bits canvas are its)
    (c.four_joins-4.ensures.bits canvas are its)) (by_four (λ k. get_or words k 0 < 2 ^ 64) c.four_joins.ensures.few c.four_joins-2.ensures.few c.four_joins-3.ensures.few c.four_joins-4.ensures.few)
