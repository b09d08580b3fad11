-- By how many updates the viewers so far are behind.
use Rattle.std.proofs.Common.{◌≡◌, ◌-◌, map, take}
use Rattle.serve.proofs.counters.lag_of.Given as goal

abbrev pub invariant-loop-viewer : goal.invariant-loop-viewer
invariant-loop-viewer l = l.behind.items ≡ map (λ viewer. l.run_card.updates - viewer.shown) (take l.viewer-index l.run_card.viewers.items)
