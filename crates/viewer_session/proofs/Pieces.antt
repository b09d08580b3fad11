-- What is written at the front of a piece. A piece's room is taken once, and used again.
use Rattle.std.proofs.Common.{◌≡◌, ℕ, ◌≤◌, List, ◌++◌, length, take, drop, ap, ◌∙◌, arith, append_assoc, length-append}
use Rattle.std.proofs.lemmas.List.{take-take}
use Rattle.std.proofs.Math.Seq.{take-append_seam}
use Rattle.rfb_wire.specs.Writing.{Writes}

-- The spelling is what is taken of the front.
pub front_written : (spelling old new behind : List ℕ) (count len : ℕ) → Writes spelling old new count → count ≤ len → take count (take len (new ++ behind)) ≡ spelling
front_written spelling old new behind count len k le =
    let rest : List ℕ = drop (length spelling) old in
    take-take count len (new ++ behind) le
    ∙ (ap (λ t. take count (t ++ behind)) k.written
    ∙ (ap (take count) (append_assoc spelling rest behind)
    ∙ (ap (λ n. take n (spelling ++ (rest ++ behind))) k.count_is ∙ take-append_seam spelling (rest ++ behind))))

pub written_within : (spelling old new : List ℕ) (count : ℕ) → Writes spelling old new count → count ≤ length new
written_within spelling old new count k = omega (arith, k.count_is, ap length k.written, length-append spelling (drop (length spelling) old))
