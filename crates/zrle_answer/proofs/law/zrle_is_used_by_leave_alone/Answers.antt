use Rattle.zrle_answer.proofs.Others.{zrle_is_used_by_leave_alone}
use Rattle.zrle_answer.proofs.law.zrle_is_used_by_leave_alone.Goals as goal

pub returns : goal.returns
returns c = zrle_is_used_by_leave_alone
