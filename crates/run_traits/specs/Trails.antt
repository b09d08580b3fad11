-- Doors that keep a trail of their viewers' links (own).
use Rattle.std.specs.Prelude.{◌≡◌, Bool, true, false, List, [], ◌∷◌, ◌++◌, Result}
use Rattle.fault.specs.declared.kinds.Fault.{Fault}
use Rattle.link.specs.Links.{LinkState}
use Rattle.run_traits.specs.Unused.{unused}

-- A door with these relations keeps this trail: into it goes each viewer's link, first as it comes, unused, and later
-- as it was left, and nothing else.
pub record KeepsTrail {D : Type 0} (lets_in : D → Bool → D → Type 0) (sees_off : D → LinkState → Result (Unit {0}) Fault → D → Type 0) (trail : D → List LinkState) : Type 0 where
  pub came : (old new : D) → lets_in old true new → trail new ≡ trail old ++ unused ∷ []
  pub none : (old new : D) → lets_in old false new → trail new ≡ trail old
  pub left : (old new : D) (link : LinkState) (why : Result (Unit {0}) Fault) → sees_off old link why new → trail new ≡ trail old ++ link ∷ []
