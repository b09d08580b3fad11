use Rattle.std.proofs.Common.{◌≡◌, ℕ, ◌+◌, ◌<◌, ◌≤◌, ◌∙◌, List, length, drop, ap, sym, arith}
use Rattle.std.specs.Prelude.{◌&&◌}
use Rattle.std.specs.List.{list_any}
use Rattle.copy_log.specs.declared.copy_rect.CopyRect.{CopyRect}
use Rattle.copy_log.specs.Passed.{has_copy}
use Rattle.copy_log.specs.Notes.{Log, Noted, note_at}
use Rattle.copy_log.proofs.Adding.{note_there, reached}
use Rattle.copy_log.proofs.Copies.{is_none, is_some, none_more, one_more}
use Rattle.copy_log.proofs.log.CopyLog.has_copies.Goals as goal

pub loop-k-preserved : goal.loop-k-preserved
loop-k-preserved c us on =
    let log : Log = c.args.self.now in
    let k : ℕ = c.loop-k.k in
    let far : (c.args.since ≤ log.number) × (log.number ≤ c.args.since + 4) = reached log c.args.since c.reaches.result c.reaches.ensures c.if-not-reaches.false in
    let own : c.self.inside.number ≡ log.number = ap (λ (v : Log). v.number) c.self.view_is in
    let is : c.index.result.now ≡ note_at log k = note_there c.self.inside.notes.items k c.place.result c.index.result.now c.self.invariant.1 c.place.ensures c.index.ensures ∙ ap (λ (v : Log). note_at v k) c.self.view_is in
    let count : length c.copies.result.now ≡ length (note_at log k).copies = ap (λ (cs : List CopyRect). length cs) c.copies.ensures.value ∙ ap (λ (n : Noted). length n.copies) is in
    none_more log us c.args.since k on c.loop-k.auto.k (omega (arith, own, c.loop-k-test.true)) far.1
    (sym count ∙ is_none (length c.copies.result.now) c.is_empty.result c.is_empty.ensures c.if-not-is_empty.false) (c.loop-k.invariant us on)

pub returns-then-not-is_empty : goal.returns-then-not-is_empty
returns-then-not-is_empty c us on =
    let log : Log = c.args.self.now in
    let k : ℕ = c.loop-k.k in
    let far : (c.args.since ≤ log.number) × (log.number ≤ c.args.since + 4) = reached log c.args.since c.reaches.result c.reaches.ensures c.if-not-reaches.false in
    let own : c.self.inside.number ≡ log.number = ap (λ (v : Log). v.number) c.self.view_is in
    let is : c.index.result.now ≡ note_at log k = note_there c.self.inside.notes.items k c.place.result c.index.result.now c.self.invariant.1 c.place.ensures c.index.ensures ∙ ap (λ (v : Log). note_at v k) c.self.view_is in
    let count : length c.copies.result.now ≡ length (note_at log k).copies = ap (λ (cs : List CopyRect). length cs) c.copies.ensures.value ∙ ap (λ (n : Noted). length n.copies) is in
    let some : 0 < length c.copies.result.now = is_some (length c.copies.result.now) c.is_empty.result c.is_empty.ensures c.if-not-is_empty.true in
    let here : 0 < length (note_at log k).copies = omega (arith, some, count) in
    sym (ap (λ b. b && list_any has_copy (drop c.args.since us)) (sym c.reaches.ensures ∙ c.if-not-reaches.false)
    ∙ one_more log us c.args.since k on c.loop-k.auto.k (omega (arith, own, c.loop-k-test.true)) far.1 here)
