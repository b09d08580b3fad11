use Rattle.std.proofs.Common.{◌≡◌, ℕ, List, length, take, ap, ◌∙◌, arith}
use Rattle.std.specs.Prelude.{filter}
use Rattle.std.specs.List.{range_with_len}
use Rattle.std.proofs.lemmas.List.{take_all}
use Rattle.hextile_codec.specs.Crowded.{is_corner}
use Rattle.hextile_codec.proofs.crowded.row_corners.Goals as goal

pub returns-clause-corners : goal.returns-clause-corners
returns-clause-corners c =
    let row : List ℕ = c.args.row.now in
    let other : List ℕ = c.args.other.now in
    let whole : take 16 row ≡ row = take_all 16 row (omega (arith, c.requires.row)) in
    let all : take 16 other ≡ other = take_all 16 other (omega (arith, c.requires.other)) in
    let counted : length (filter (is_corner (take 16 row) (take 16 other)) (range_with_len 0 16)) ≡ length (filter (is_corner row other) (range_with_len 0 16)) =
    ap (λ (r : List ℕ). length (filter (is_corner r (take 16 other)) (range_with_len 0 16))) whole ∙ ap (λ (r : List ℕ). length (filter (is_corner row r) (range_with_len 0 16))) all in
    omega (arith, c.count_corners.ensures.corners, counted)
