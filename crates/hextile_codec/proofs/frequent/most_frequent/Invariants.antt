use Rattle.std.proofs.Common.{◌-◌, length}
use Rattle.hextile_codec.proofs.MostFound.{IsBest}
use Rattle.hextile_codec.proofs.frequent.most_frequent.Given as goal

abbrev pub invariant-loop-at : goal.invariant-loop-at
invariant-loop-at l = IsBest l.values l.at l.best l.most

abbrev pub decreases-loop-at : goal.decreases-loop-at
decreases-loop-at l = length l.values - l.at
