use Rattle.std.proofs.Common.{◌≡◌, ℕ, ◌<◌, ◌≤◌, Some, List, length, sym, ap, ◌∙◌, arith}
use Rattle.recording.specs.Progress.{Progress, part_end, outcome}
use Rattle.recording.proofs.Parts.{none_yet, some_whole}
use Rattle.recording.proofs.reader.RecordingReader.found.Goals as goal

pub returns-then-begun-part_end : goal.returns-then-begun-part_end
returns-then-begun-part_end c =
    let begun : List ℕ = c.self.inside.begun.items in
    let end : c.part_end.result ≡ part_end c.self.inside.last begun = c.part_end.ensures.value ∙ sym (ap (λ (p : Progress). part_end p.last p.begun) c.self.view_is) in
    let come : length c.as_slice-begun.result.now ≡ length begun = ap length c.as_slice-begun.ensures.value in
    let short : length begun < part_end c.self.inside.last begun = omega (arith, end, come, c.if-begun-part_end.true) in
    sym (none_yet c.args.self.now c.self.inside.last begun c.self.view_is short)

pub returns-in-None : goal.returns-in-None
returns-in-None c =
    let begun : List ℕ = c.self.inside.begun.items in
    let end : c.part_end.result ≡ part_end c.self.inside.last begun = c.part_end.ensures.value ∙ sym (ap (λ (p : Progress). part_end p.last p.begun) c.self.view_is) in
    let come : length c.as_slice-begun.result.now ≡ length begun = ap length c.as_slice-begun.ensures.value in
    let full : part_end c.self.inside.last begun ≤ length begun = omega (arith, end, come, c.if-begun-part_end.false) in
    sym (some_whole c.args.self.now c.self.inside.last begun c.self.view_is c.self.invariant full ∙ ap (λ o. Some (outcome o begun)) c.in-None.is)

pub returns-in-Some : goal.returns-in-Some
returns-in-Some c =
    let begun : List ℕ = c.self.inside.begun.items in
    let end : c.part_end.result ≡ part_end c.self.inside.last begun = c.part_end.ensures.value ∙ sym (ap (λ (p : Progress). part_end p.last p.begun) c.self.view_is) in
    let come : length c.as_slice-begun.result.now ≡ length begun = ap length c.as_slice-begun.ensures.value in
    let full : part_end c.self.inside.last begun ≤ length begun = omega (arith, end, come, c.if-begun-part_end.false) in
    let judged = ap (λ (xs : List ℕ). Some (outcome (Some c.in-Some.last) xs)) c.as_slice-begun.ensures.value in
    ap Some c.judge_block.ensures ∙ (judged ∙ sym (some_whole c.args.self.now c.self.inside.last begun c.self.view_is c.self.invariant full ∙ ap (λ o. Some (outcome o begun)) c.in-Some.is))
