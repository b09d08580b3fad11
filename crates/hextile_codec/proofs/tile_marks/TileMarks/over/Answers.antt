use Rattle.std.proofs.Common.{ℕ, List, [], ◌∷◌, ◌*◌, ◌/◌, get_or, arith}
use Rattle.std.specs.Int.Bits.{bit_and, bit_or}
use Rattle.hextile_codec.specs.Marks.{AreMarks}
use Rattle.hextile_codec.proofs.FourWords.{word_marks}
use Rattle.hextile_codec.proofs.RowMarks.{by_four}
use Rattle.hextile_codec.proofs.tile_marks.TileMarks.over.Goals as goal

pub returns-clause-marks : goal.returns-clause-marks
returns-clause-marks c canvas ch ot k lk =
    let background : ℕ = c.args.background in
    let changes : List ℕ = c.args.changes.now in
    let others : List ℕ = c.args.others.now in
    let begin_of : ℕ → ℕ = λ k. bit_and (get_or changes k 0) (get_or others k 0) in
    let end_of : ℕ → ℕ = λ k. bit_or (get_or changes k 0 / 2) 9223372036854775808 in
    let begins : List ℕ = begin_of 0 ∷ begin_of 1 ∷ begin_of 2 ∷ begin_of 3 ∷ [] in
    let ends : List ℕ = end_of 0 ∷ end_of 1 ∷ end_of 2 ∷ end_of 3 ∷ [] in
    by_four (λ k. AreMarks canvas background (4 * k) (record { background = background; begins = get_or begins k 0; ends = get_or ends k 0 }))
    (word_marks canvas background changes others ch ot 0 (omega arith)) (word_marks canvas background changes others ch ot 1 (omega arith))
    (word_marks canvas background changes others ch ot 2 (omega arith)) (word_marks canvas background changes others ch ot 3 (omega arith)) k lk
