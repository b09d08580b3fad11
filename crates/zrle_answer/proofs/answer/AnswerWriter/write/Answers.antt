use Rattle.std.proofs.Common.{◌≡◌, ℕ, ◌++◌, ◌∙◌, List, None, length, sym, ap, subst}
use Rattle.std.specs.Prelude.{◌&&◌}
use Rattle.std.proofs.lemmas.List.{length-map}
use Rattle.std.proofs.lemmas.Result.{IfOk-weaker}
use Rattle.reflect_core.specs.Source.{copies_in, marked}
use Rattle.tiles.specs.Brings.{BringTheDue}
use Rattle.update_encoder.specs.Coming.{front_bytes, shown}
use Rattle.update_encoder.specs.Style.{style_in}
use Rattle.zrle_answer.specs.Planned.{areas_of}
use Rattle.zrle_answer.specs.Written.{AppendsAll, IsWholeOf}
use Rattle.zrle_answer.specs.declared.plan.Planned.{Planned}
use Rattle.zrle_answer.proofs.Whole.{is_whole}
use Rattle.zrle_answer.proofs.answer.AnswerWriter.write.Goals as goal

pub returns-clause-ok : goal.returns-clause-ok
returns-clause-ok c =
    let cut = c.args.cut.now in
    let style = style_in c.args.style.now in
    let plan : List Planned = c.as_slice-plan.result.now in
    let front : List ℕ = front_bytes (copies_in cut) (length plan) in
    let brings : BringTheDue cut.width cut.height c.args.area.now (marked cut) (areas_of plan) =
    subst (λ (p : List Planned). BringTheDue cut.width cut.height c.args.area.now (marked cut) (areas_of p)) (sym c.as_slice-plan.ensures.value) c.in_ok-plan_rectangles.ensures.ok in
    let begins : c.append_front.new.out.items ≡ front = c.in_ok-append_front.ensures.ok ∙ ap (λ t. t ++ front) c.clear.ensures.items in
    IfOk-weaker c.append_all.result
    (λ now. AppendsAll style (shown cut) (c.args.style.now.choice.copy && cut.all_were_sent) None (areas_of plan) c.args.begun now c.append_front.new.out.items c.append_all.new.out.items)
    (λ now. IsWholeOf style cut c.args.area.now c.args.begun now c.append_all.new.out.items)
    (λ now all. is_whole style cut.width cut.height c.args.area.now (shown cut) (copies_in cut) (marked cut) cut.all_were_sent c.args.begun now (areas_of plan) (length plan) c.append_front.new.out.items c.append_all.new.out.items brings (sym (length-map plan (λ (p : Planned). p.area))) begins all)
    c.append_all.ensures.ok
