-- What contracts see of a link of one of two kinds.
use Rattle.link.specs.Links.{LinkState}
use Rattle.link.specs.declared.either_link.EitherLink.{EitherLink}
use Rattle.link.specs.declared.either_link.EitherLink.TheVariants.{First, Second}

-- The state of the link that it holds.
abbrev pub either_state : {A B : Type 0} → (A → LinkState) → (B → LinkState) → EitherLink A B → LinkState
either_state first second (First link) = first link
either_state first second (Second link) = second link
