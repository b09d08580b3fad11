-- Bytes that are put into a buffer one part after another. Both encoders write so.
use Rattle.std.proofs.Common.{◌≡◌, ℕ, ◌+◌, ◌-◌, ◌≤◌, List, ◌++◌, take, drop, length, ap, ◌∙◌, append_assoc, length-append, arith}
use Rattle.std.proofs.lemmas.List.{length-take, length-drop, take_at}
use Rattle.std.proofs.lemmas.Slice.{take-put_mid}
use borrow.Rule.Slice.PartMut.{put_mid, post_of}

-- What a first part leaves in front.
pub first_part : (out px rest : List ℕ) (used p k : ℕ) → length px ≡ p → used ≤ length out → take (used + p) (put_mid used k out (px ++ rest)) ≡ take used out ++ px
first_part out px rest used p k size le =
    let front : length (take used out ++ px) ≡ used + p = omega (arith, length-append (take used out) px, length-take used out, size) in
    let whole : put_mid used k out (px ++ rest) ≡ (take used out ++ px) ++ (rest ++ post_of used k out) = simp append_assoc in
    rw whole (take_at (take used out ++ px) (rest ++ post_of used k out) (used + p) front)

-- The buffer keeps its length.
pub part_keeps : (out now : List ℕ) (used : ℕ) → used ≤ length out → length now ≡ length out - used → length (put_mid used (length out - used) out now) ≡ length out
part_keeps out now used le kept =
    let k : ℕ = length out - used in
    let post : List ℕ = post_of used k out in
    let over : length post ≡ 0 = omega (arith, length-drop k (drop used out), length-drop used out) in
    omega (arith, length-append (take used out) (now ++ post), length-append now post, length-take used out, over)

-- And a second one after it.
pub two_parts : (out px rest now place : List ℕ) (used p b j n : ℕ) → now ≡ px ++ rest → length px ≡ p → b ≡ p → used + p + n ≤ length out → length now ≡ length out - used → length place ≡ n
    → take (used + p + n) (put_mid (used + b) j (put_mid used (length out - used) out now) place) ≡ take used out ++ (px ++ place)
two_parts out px rest now place used p b j n is size same le kept count =
    let k : ℕ = length out - used in
    let whole : length (put_mid used k out now) ≡ length out = part_keeps out now used (omega arith) kept in
    take-put_mid (used + b) j (put_mid used k out now) place (used + p + n) (omega arith) (omega (arith, whole))
    ∙ (ap (λ i. take (used + i) (put_mid used k out now) ++ place) same
    ∙ (ap (λ t. take (used + p) (put_mid used k out t) ++ place) is
    ∙ (ap (λ t. t ++ place) (first_part out px rest used p k size (omega arith)) ∙ append_assoc (take used out) px place)))
