use Rattle.std.proofs.Common.{◌≡◌, ℕ, ◌++◌, List, length, length-append, get_or, ap, arith}
use Rattle.std.specs.Prelude.{count_ones}
use Rattle.raster.specs.Encoding.{Subrect}
use Rattle.hextile_codec.specs.declared.tile_marks.TileMarks.{TileMarks}
use Rattle.hextile_codec.specs.Marks.{runs_of_rows}
use Rattle.hextile_codec.proofs.FourWords.{four_fours, word_count}
use Rattle.hextile_codec.proofs.tile_marks.TileMarks.count.Goals as goal

pub returns-clause-value : goal.returns-clause-value
returns-clause-value c canvas are =
    let marks : TileMarks = c.args.self.now in
    let bg : ℕ = marks.background in
    let four : ℕ → List Subrect = λ y. runs_of_rows canvas bg 16 y 4 in
    let a : count_ones (get_or marks.begins 0 0) ≡ length (four 0) = word_count canvas bg 0 (record { background = bg; begins = get_or marks.begins 0 0; ends = get_or marks.ends 0 0 }) (are 0 (omega arith)) in
    let b : count_ones (get_or marks.begins 1 0) ≡ length (four 4) = word_count canvas bg 4 (record { background = bg; begins = get_or marks.begins 1 0; ends = get_or marks.ends 1 0 }) (are 1 (omega arith)) in
    let d : count_ones (get_or marks.begins 2 0) ≡ length (four 8) = word_count canvas bg 8 (record { background = bg; begins = get_or marks.begins 2 0; ends = get_or marks.ends 2 0 }) (are 2 (omega arith)) in
    let e : count_ones (get_or marks.begins 3 0) ≡ length (four 12) = word_count canvas bg 12 (record { background = bg; begins = get_or marks.begins 3 0; ends = get_or marks.ends 3 0 }) (are 3 (omega arith)) in
    let parts = ap length (four_fours canvas bg) in
    let first = length-append (four 0) (four 4 ++ (four 8 ++ four 12)) in
    let second = length-append (four 4) (four 8 ++ four 12) in
    let third = length-append (four 8) (four 12) in
    omega (arith, c.count_bits.ensures.value, a, b, d, e, parts, first, second, third)
