-- Options in turn that have the rules of a list in turn.
use Rattle.std.proofs.Common.{◌≡◌, ap₂, List, ◌∷◌}
use Rattle.clap.specs.Words.{Rule}

-- One rule more is the same, and so are the rules behind it.
pub also : {a b : Rule} {rest more : List Rule} → a ≡ b → rest ≡ more → (a ∷ rest) ≡ (b ∷ more)
also {a} {b} {rest} {more} same others = ap₂ (λ (rule : Rule) (rules : List Rule). rule ∷ rules) same others
