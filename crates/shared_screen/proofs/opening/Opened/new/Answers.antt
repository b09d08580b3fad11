use Rattle.std.proofs.Common.{refl, arith}
use Rattle.shared_screen.proofs.Shares.{kept_keyless}
use Rattle.shared_screen.proofs.opening.Opened.new.Goals as goal

pub open-seen-requires : goal.open-seen-requires
open-seen-requires g c = (record { words = refl; legal = tt; backed = record { first = λ n low up. absurd (omega arith) } }, (λ xs. kept_keyless c.begin-start.result.0.names xs), c.begin-start.ensures.0)
