-- A text that spells no speed spells none in the range.
use Rattle.std.proofs.Common.{List, ℕ, subst, sym}
use Rattle.play_control.specs.Speeds.{SpellsSpeed}
use Rattle.play_control.proofs.speed.Speed.read.Goals as goal

pub returns-in_default-clause-none : goal.returns-in_default-clause-none
returns-in_default-clause-none c = λ n slow fast says.
    c.in_default.ensures.none n (subst (λ (t : List ℕ). SpellsSpeed t n) (sym c.as_bytes.ensures.value) says)
