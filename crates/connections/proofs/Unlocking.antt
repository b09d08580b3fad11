-- What unlocks a port, by what the bytes carry.
use Rattle.std.proofs.Common.{◌≡◌, ℕ, List, subst, sym}
use Rattle.connections.specs.Keys.{HasUnlocked}
use Rattle.connections.specs.declared.key.Key.{Key}

pub carried : (key : Key) (said heard s h : List ℕ) → s ≡ said → h ≡ heard → ∥ HasUnlocked key said heard ∥₁ → ∥ HasUnlocked key s h ∥₁
carried key said heard s h e f unlocked =
    subst (λ (x : List ℕ). ∥ HasUnlocked key x h ∥₁) (sym e) (subst (λ (x : List ℕ). ∥ HasUnlocked key said x ∥₁) (sym f) unlocked)
