-- The links that were noted, one after another (own).
use Rattle.std.specs.Prelude.{List, [], ◌∷◌, ◌++◌}
use Rattle.link.specs.Links.{LinkState}
use Rattle.run_traits.specs.declared.link_trail.Trail.{Trail}
use Rattle.run_traits.specs.declared.link_trail.Trail.TheOpen.{Trail-F, Nothing, Then}
use Rattle.run_traits.specs.declared.link_trail.Trail.TheFolds.{fold-Trail}
use Rattle.run_traits.specs.declared.link_trail.LinkTrail.{LinkTrail}

module _ {L : Type 0} (state : L → LinkState) where
  -- The links with one more, after those before it.
  abbrev pub one_more : Trail-F L (List LinkState) → List LinkState
  one_more Nothing = []
  one_more (Then before link) = before.value ++ state link.value ∷ []

  -- The states of all of them, in turn, as they were when they were noted.
  abbrev pub links_in : LinkTrail L → List LinkState
  links_in links = fold-Trail L (List LinkState) one_more links.trail.value
