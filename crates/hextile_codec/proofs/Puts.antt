-- Bytes that are put into a buffer one part after another. `encode` writes a tile's subrectangles so.
use Rattle.std.proofs.Common.{◌≡◌, ℕ, List, ◌++◌, take, ap, ◌∙◌, append_assoc}

-- What is put after what was put.
pub then_put : (front a b first second : List ℕ) (m k : ℕ) → take m a ≡ front ++ first → take k b ≡ take m a ++ second → take k b ≡ front ++ (first ++ second)
then_put front a b first second m k p q = q ∙ (ap (λ t. t ++ second) p ∙ append_assoc front first second)
