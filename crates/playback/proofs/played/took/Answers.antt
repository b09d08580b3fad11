-- No byte, or some.
use Rattle.std.proofs.Common.{◌∙◌, ◌++◌, ℕ, List, take, ap, append-nil}
use Rattle.playback.proofs.played.took.Goals as goal

pub returns-then-count-eq0-clause-takes : goal.returns-then-count-eq0-clause-takes
returns-then-count-eq0-clause-takes c =
    λ old new into fits is. is ∙ (ap (λ (n : ℕ). record old { taken = old.taken ++ take n into }) c.if-count-eq0.true ∙ ap (λ (xs : List ℕ). record old { taken = xs }) (append-nil old.taken))
