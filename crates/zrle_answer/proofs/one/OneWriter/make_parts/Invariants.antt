use Rattle.shared_parts.specs.Parts.{ArePartsOf}
use Rattle.zrle_answer.proofs.one.OneWriter.make_parts.Given as goal

abbrev pub invariant-loop-planned : goal.invariant-loop-planned
invariant-loop-planned l = ArePartsOf l.cut.width l.cut.colours.items l.parts
