-- A run ends well only where its last host may end, or where an operator may stop it.
use Rattle.std.proofs.Common.{◌≡◌, Bool, true, false, Option, None, inl, inr, refl, is_some}
use Rattle.serve.specs.Turns.{MayEnd, endless}
use Rattle.serve.specs.declared.turns.Turns.{Turns}
use Rattle.serve.specs.Stops.{IsOut}
use Rattle.settings.specs.declared.values.Settings.{Settings}

-- The pause that is left where nobody can stop the run says which of the two it is.
pub may_end : (settings : Settings) → endless (is_some settings.control) settings.again ≡ None → MayEnd settings
may_end settings ends = go (is_some settings.control) refl ends
  where
    go : (b : Bool) → is_some settings.control ≡ b → endless b settings.again ≡ None → MayEnd settings
    go true names ends = inr names
    go false names ends = inl ends

pub stopped : (settings : Settings) → is_some settings.control ≡ true → MayEnd settings
stopped settings names = inr names

-- A supply that is out has no pause that is left whatever is asked.
pub never : {A B : Type 0} (turns : Turns) (stopped : Option A) (lifeline : Option B) → IsOut turns stopped lifeline → endless (is_some lifeline) turns.again ≡ None
never turns stopped lifeline (inl out) = go (is_some lifeline)
  where
    go : (b : Bool) → endless b turns.again ≡ None
    go true = refl
    go false = out.0
never turns stopped lifeline (inr cut) = rw cut.1 refl
