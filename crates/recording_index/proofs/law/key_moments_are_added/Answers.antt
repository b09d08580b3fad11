use Rattle.std.proofs.lemmas.List.Elements.{All-nil}
use Rattle.recording_index.specs.KeyMoments.{IsAt}
use Rattle.recording_index.proofs.Places.{stays, adds}
use Rattle.recording_index.proofs.law.key_moments_are_added.Goals as goal

pub returns-clause-begins : goal.returns-clause-begins
returns-clause-begins c = λ blocks. record { in_order = tt; each = All-nil (IsAt blocks) }

pub returns-clause-stays : goal.returns-clause-stays
returns-clause-stays c = stays

pub returns-clause-adds : goal.returns-clause-adds
returns-clause-adds c = adds
