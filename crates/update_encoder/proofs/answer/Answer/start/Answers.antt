use Rattle.std.proofs.Common.{◌≡◌, ℕ, ◌≤◌, ◌^◌, ◌++◌, Bool, List, length, map, None, sym, ap, ◌∙◌, subst, arith}
use Rattle.std.specs.Prelude.{◌&&◌}
use Rattle.raster.specs.declared.rect.Rect.{Rect}
use Rattle.reflect_core.specs.Source.{copies_in, marked}
use Rattle.rfb_wire.specs.Writing.{update_bytes}
use Rattle.tiles.specs.Touched.{runs}
use Rattle.tiles.specs.Walk.{Walking, runs_left}
use Rattle.update_encoder.specs.Answer.{all_spelled, copy_bytes}
use Rattle.update_encoder.specs.Coming.{front_bytes, shown}
use Rattle.update_encoder.specs.Style.{style_in}
use Rattle.update_encoder.proofs.Counts.{all_left, bytes_of, few_left, is_update}
use Rattle.update_encoder.proofs.answer.Answer.start.Goals as goal
use Rattle.update_encoder.proofs.answer.Answer.start.Goals.{then-style, else-style}

pub count_runs-requires-clause-few : goal.count_runs-requires-clause-few
count_runs-requires-clause-few c =
    let cut = c.args.cut.now in
    subst (λ (k : Walking). length (runs_left k (marked cut)) ≤ 2 ^ 15) (sym c.new-2.ensures) (few_left cut.width cut.height c.args.area.now (marked cut) cut.size c.requires)

pub invariant_of-result : goal.invariant_of-result
invariant_of-result c =
    let cut = c.args.cut.now in
    let few : length (runs_left c.new-2.result (marked cut)) ≤ 2 ^ 15 = subst (λ (k : Walking). length (runs_left k (marked cut)) ≤ 2 ^ 15) (sym c.new-2.ensures) (few_left cut.width cut.height c.args.area.now (marked cut) cut.size c.requires) in
    (omega (arith, c.count_runs.ensures, few), tt)

pub returns-clause-count : goal.returns-clause-count
returns-clause-count c =
    let cut = c.args.cut.now in
    let due : ℕ → Bool = marked cut in
    c.count_runs.ensures
    ∙ (ap (λ (k : Walking). length (runs_left k due)) c.new-2.ensures
    ∙ ap (λ (rs : List Rect). length rs) (all_left cut.width cut.height c.args.area.now due))

pub returns-clause-bytes : goal.returns-clause-bytes
returns-clause-bytes c =
    let cut = c.args.cut.now in
    let due : ℕ → Bool = marked cut in
    let rs : List Rect = runs cut.width cut.height c.args.area.now due in
    let same : runs_left c.new.result due ≡ rs = ap (λ (k : Walking). runs_left k due) c.new.ensures ∙ all_left cut.width cut.height c.args.area.now due in
    let counted : c.count_runs.result ≡ length (runs_left c.new.result due) = c.count_runs.ensures ∙ ap (λ (k : Walking). length (runs_left k due)) (c.new-2.ensures ∙ sym c.new.ensures) in
    let may : c.if-style.result ≡ (c.args.style.choice.copy && cut.all_were_sent) =
    elim c.if-style.branch [
      | then-style w ↦ w.result-is ∙ ap (λ b. b && cut.all_were_sent) (sym w.if-style.true)
      | else-style w ↦ w.result-is ∙ (w.if-style.false ∙ ap (λ b. b && cut.all_were_sent) (sym w.if-style.false))
    ] in
    subst (λ b. front_bytes (copies_in cut) c.count_runs.result ++ bytes_of (style_in c.args.style) (shown cut) b None (runs_left c.new.result due)
    ≡ update_bytes (map copy_bytes (copies_in cut) ++ all_spelled (style_in c.args.style) (shown cut) (c.args.style.choice.copy && cut.all_were_sent) None rs)) (sym may)
    (is_update (style_in c.args.style) (shown cut) (copies_in cut) (c.args.style.choice.copy && cut.all_were_sent) c.count_runs.result (runs_left c.new.result due) rs same counted)
