use Rattle.std.proofs.Common.{drop}
use Rattle.reflect_core.specs.Asked.{LiesOn}
use Rattle.update_encoder.specs.Coming.{shown}
use Rattle.update_encoder.specs.Style.{style_in}
use Rattle.zrle_answer.specs.Planned.{areas_of}
use Rattle.zrle_answer.proofs.Whole.{SoFar}
use Rattle.zrle_answer.proofs.answer.append_all.Given as goal

abbrev pub invariant-loop-planned : goal.invariant-loop-planned
invariant-loop-planned l =
    record {
      lies : LiesOn l.cut.width l.cut.height l.before;
      so_far : SoFar (style_in l.style) (shown l.cut) l.may_copy (areas_of l.plan) (areas_of (drop l.planned-index l.plan)) l.before l.fn.begun l.begun l.fn.out.items l.out.items;
    }
