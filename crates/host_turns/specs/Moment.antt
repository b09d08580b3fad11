-- What is true of a run at every moment while a host is joined and not read yet (own). Between two hosts it is HasRun.
use Rattle.std.specs.Prelude.{◌≡◌, ◌⊎◌, ℕ, true, List, [], Option}
use Rattle.raster.specs.Update.{Update}
use Rattle.link.specs.Links.{LinkState}
use Rattle.host_turns.specs.declared.ending.Ending.{Ending}
use Rattle.host_turns.specs.Running.{Coming, HasRun, IsMet, came_over, goes_on}

-- The first host is to be read: no other was read before, and nothing was put.
pub record IsFirst (came joined : Coming) (links : List LinkState) (old now : List Update) : Type 0 where
  pub same : joined ≡ came
  pub none : links ≡ []
  pub unput : now ≡ old

-- A host after the first is to be read. The hosts before it had their turns, the last of which ended so that another
-- host is taken. This one came over a link as `comes` says, was joined within the room, and then the switch to it was
-- put.
pub record IsFurther (w h : ℕ) (password : Option (List ℕ)) (comes : Coming → Type 0) (first joined : Coming)
    (links : List LinkState) (old now : List Update) : Type 0 where
  pub last : Ending
  pub shown : List Update
  pub run : HasRun w h password comes last first links old shown
  pub on : goes_on last ≡ true
  pub met : (link : LinkState) × comes (came_over joined.has_called link)
      × IsMet w h password link joined.link shown now

-- A run began with the host `first` and the updates `old`. Now the host `joined` is to be read, which is the first one
-- or a later one. `links` are the links of the hosts that were read before it.
abbrev pub IsBegun : ℕ → ℕ → Option (List ℕ) → (Coming → Type 0) → (first joined : Coming) → List LinkState
    → (old now : List Update) → Type 0
IsBegun w h password comes first joined links old now =
    IsFirst first joined links old now ⊎ IsFurther w h password comes first joined links old now
