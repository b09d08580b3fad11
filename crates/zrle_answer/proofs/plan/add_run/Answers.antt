use Rattle.std.proofs.Common.{List, length, refl, sym, subst, ◌≡◌, get_or, ◌<◌}
use Rattle.zrle_answer.specs.Planned.{GoesOn}
use Rattle.zrle_answer.specs.declared.plan.Planned.{Planned}
use Rattle.zrle_answer.proofs.Planning.{run_joins}
use Rattle.zrle_answer.proofs.plan.add_run.Goals as goal

pub returns : goal.returns
returns c =
    let plan : List Planned = c.args.plan.now.items in
    let at = c.in-Some.at in
    let above : Planned = c.index.result.now in
    let there : at < length plan = subst (λ (ps : List Planned). at < length ps) c.deref.ensures.value c.in-Some.ensures.0 in
    let goes : GoesOn (get_or c.deref.result.now at above).area c.args.run.now = c.in-Some.ensures.1 above in
    let same : get_or plan at above ≡ above = sym c.index.ensures in
    let now : GoesOn above.area c.args.run.now = subst (λ (p : Planned). GoesOn p.area c.args.run.now) same (subst (λ (ps : List Planned). GoesOn (get_or ps at above).area c.args.run.now) c.deref.ensures.value goes) in
    record { ok = run_joins plan at above _ above c.args.run.now there same now refl }
