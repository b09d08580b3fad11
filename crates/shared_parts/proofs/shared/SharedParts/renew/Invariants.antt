use Rattle.shared_parts.specs.Parts.{ArePartsOf, IsScreen}
use Rattle.shared_parts.proofs.shared.SharedParts.renew.Given as goal

abbrev pub invariant-loop : goal.invariant-loop
invariant-loop l = ArePartsOf l.width l.colours.items l.self-inside.places.items × IsScreen l.width l.colours.items l.screen
