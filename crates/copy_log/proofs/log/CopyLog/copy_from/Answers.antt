use Rattle.std.proofs.Common.{◌≡◌, ◌∙◌, List, length, ap, sym, arith}
use Rattle.std.proofs.lemmas.List.{with_items_is}
use Rattle.std.specs.Vec.{with_items}
use Rattle.copy_log.specs.Notes.{Log, Noted}
use Rattle.copy_log.proofs.Adding.{all_taken}
use Rattle.copy_log.proofs.log.CopyLog.copy_from.Goals as goal

pub returns : goal.returns
returns c =
    let other : Log = c.args.other.now in
    let wide : c.self.inside.width ≡ other.width = ap (λ (v : Log). v.width) c.self.view_is ∙ sym c.requires.width in
    let high : c.self.inside.height ≡ other.height = ap (λ (v : Log). v.height) c.self.view_is ∙ sym c.requires.height in
    let number : c.other.inside.number ≡ other.number = ap (λ (v : Log). v.number) c.other.view_is in
    let rows : (with_items c.self.inside.notes c.take_notes.new.notes).items ≡ c.take_notes.new.notes = with_items_is c.self.inside.notes c.take_notes.new.notes (omega (arith, c.take_notes.auto.notes, c.as_mut_slice.ensures.len)) in
    let own : length c.take_notes.new.notes ≡ 4 = c.take_notes.auto.notes ∙ (ap (λ (ns : List Noted). length ns) c.as_mut_slice.ensures.value ∙ c.self.invariant.1) in
    let theirs : length c.as_slice.result.now ≡ 4 = ap (λ (ns : List Noted). length ns) c.as_slice.ensures.value ∙ c.other.invariant.1 in
    let notes : (with_items c.self.inside.notes c.take_notes.new.notes).items ≡ other.notes =
    rows ∙ (all_taken c.take_notes.new.notes c.as_slice.result.now own theirs c.take_notes.ensures.taken ∙ (c.as_slice.ensures.value ∙ ap (λ (v : Log). v.notes) c.other.view_is)) in
    (λ i. record { width = wide i; height = high i; number = number i; notes = notes i })
