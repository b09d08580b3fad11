-- The looks and cuts of a served viewer as steps of the one history of a shared screen (own).
use Rattle.std.specs.Prelude.{◌≡◌, ℕ, ◌+◌, ◌≤◌, not, List, [], ◌∷◌, ◌++◌, take, filter, Some, None}
use Rattle.raster.specs.Update.{Update, view}
use Rattle.reflect_core.specs.Sequential.{Shared, Step, Look, Cut, Leads, is_change}
use Rattle.viewer_session.specs.Acts.{Act, Bytes, Turn, Written, Passed}

-- A list of acts has the latest first.

-- The looks and cuts of these acts, in order, each with its reply. The reply of a cut is what can be shown after the
-- first updates, as many as the cut's number says.
abbrev pub own_steps : List Update → List Act → List Step
own_steps us [] = []
own_steps us (Bytes marks bytes ∷ acts) = own_steps us acts
own_steps us (Turn looked None ∷ acts) = own_steps us acts ++ Look looked ∷ []
own_steps us (Turn looked (Some cut) ∷ acts) = own_steps us acts ++ Look looked ∷ Cut (view (take cut.number us)) ∷ []
own_steps us (Written count ∷ acts) = own_steps us acts
own_steps us (Passed ∷ acts) = own_steps us acts

-- A history leads from old to new. Its looks and cuts are these, in order, and its other steps are puts and raises.
pub record IsOneHistory (old : Shared) (own : List Step) (new : Shared) : Type 0 where
  pub steps : List Step
  pub leads : Leads old steps new
  pub own_steps : filter (λ s. not (is_change s)) steps ≡ own

-- No cut of these acts has a number above n + 1.
abbrev pub CutsNear : ℕ → List Act → Type 0
CutsNear n [] = Unit {0}
CutsNear n (Bytes marks bytes ∷ acts) = CutsNear n acts
CutsNear n (Turn looked None ∷ acts) = CutsNear n acts
CutsNear n (Turn looked (Some cut) ∷ acts) = (cut.number ≤ n + 1) × CutsNear n acts
CutsNear n (Written count ∷ acts) = CutsNear n acts
CutsNear n (Passed ∷ acts) = CutsNear n acts

-- A look after a cut numbered k replies at least k - 1.
abbrev pub LooksFollow : List Act → Type 0
LooksFollow [] = Unit {0}
LooksFollow (Bytes marks bytes ∷ acts) = LooksFollow acts
LooksFollow (Turn looked cut ∷ acts) = CutsNear looked acts × LooksFollow acts
LooksFollow (Written count ∷ acts) = LooksFollow acts
LooksFollow (Passed ∷ acts) = LooksFollow acts
