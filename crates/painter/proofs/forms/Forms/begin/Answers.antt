use Rattle.std.proofs.Common.{◌≡◌, ℕ, zero, suc, Bool, true, false, List, [], ◌∷◌, ◌++◌, Option, None, get_or, refl, ap, ◌∙◌}
use Rattle.std.specs.Prelude.{if◌then◌else◌, is_ok}
use Rattle.painter.proofs.forms.Forms.begin.Goals as goal

-- A place without a value more.
none_more : {A : Type 0} (xs : List (Option A)) (t : ℕ) → get_or (xs ++ None ∷ []) t None ≡ get_or xs t None
none_more [] zero = refl
none_more [] (suc t) = refl
none_more (x ∷ xs) zero = refl
none_more (x ∷ xs) (suc t) = none_more xs t

pushed : {A : Type 0} (b : Bool) (xs : List (Option A)) (t : ℕ) → get_or (if b then xs ++ None ∷ [] else xs) t None ≡ get_or xs t None
pushed true xs t = none_more xs t
pushed false xs t = refl

pub loop-preserved : goal.loop-preserved
loop-preserved c = λ t. ap (λ xs. get_or xs t None) c.push.ensures.items ∙ (pushed (is_ok c.push.result) c.loop.self.list.items t ∙ c.loop.invariant t)
