use Rattle.fault.proofs.Reasons.{stands_before_zeros}
use Rattle.fault.specs.declared.reason.TheConstants.{LONGEST_REASON}
use Rattle.fault.proofs.reason.Reason.new.Goals as goal

pub invariant_of-result : goal.invariant_of-result
invariant_of-result c = stands_before_zeros LONGEST_REASON c.args.bytes.now c.copy_from_slice.new.self c.copy_from_slice.ensures.after
