use Rattle.std.proofs.Common.{sym, ◌∙◌}
use Rattle.zrle_codec.proofs.Lengths.{pixel_few, from_last}
use Rattle.zrle_codec.proofs.cpixel.Cpixels.new.Goals as goal

pub invariant_of-result-clause-begins : goal.invariant_of-result-clause-begins
invariant_of-result-clause-begins c = from_last c.args.format.now (sym c.leaves_last.ensures.value ∙ c.if-leaves_last.true)

pub invariant_of-result-clause-short : goal.invariant_of-result-clause-short
invariant_of-result-clause-short c = pixel_few c.args.format.now
