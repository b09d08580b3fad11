use Rattle.std.proofs.Common.{◌≡◌, drop}
use Rattle.vnc_auth.specs.Des.{after_rounds, split}
use Rattle.vnc_auth.proofs.blocks.coded.Given as goal

-- What the rounds to come make of the halves now is what all rounds make of the block.
abbrev pub invariant-loop-count : goal.invariant-loop-count
invariant-loop-count l =
    after_rounds (drop l.count-index l.turns) l.chosen (record { left = l.left; right = l.right }) ≡ after_rounds l.turns l.chosen (split l.block)
