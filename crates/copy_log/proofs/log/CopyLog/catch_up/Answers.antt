use Rattle.std.proofs.Common.{◌≡◌, ◌≢◌, ℕ, ◌+◌, ◌%◌, ◌<◌, ◌≤◌, ◌∙◌, List, get_or, ap, arith, ◌⊎◌}
use Rattle.std.proofs.lemmas.List.{with_items_is}
use Rattle.std.specs.Vec.{with_items}
use Rattle.copy_log.specs.Notes.{Log, Noted, note_at, nothing}
use Rattle.copy_log.proofs.Adding.{begins_from, caught_up}
use Rattle.copy_log.proofs.log.CopyLog.catch_up.Goals as goal

pub returns-clause-stands : goal.returns-clause-stands
returns-clause-stands c us on ahead =
    let old : Log = c.args.self.now in
    let newer : Log = c.args.newer.now in
    let first : ℕ = c.max-first.result in
    let notes : List Noted = (with_items c.self.inside.notes c.take_notes.new.notes).items in
    let new : Log = record { width = c.self.inside.width; height = c.self.inside.height; number = c.newer.inside.number; notes = notes } in
    let rows : notes ≡ c.take_notes.new.notes = with_items_is c.self.inside.notes c.take_notes.new.notes (omega (arith, c.take_notes.auto.notes, c.as_mut_slice.ensures.len)) in
    let wide : new.width ≡ old.width = ap (λ (v : Log). v.width) c.self.view_is in
    let high : new.height ≡ old.height = ap (λ (v : Log). v.height) c.self.view_is in
    let number : new.number ≡ newer.number = ap (λ (v : Log). v.number) c.newer.view_is in
    let own : c.self.inside.number ≡ old.number = ap (λ (v : Log). v.number) c.self.view_is in
    let from : (first ≡ old.number) ⊎ (first + 4 ≡ newer.number) = begins_from old.number newer.number first c.saturating_sub.result (omega (arith, c.saturating_sub.ensures)) (omega (arith, c.max-first.ensures)) in
    let theirs : c.as_slice.result.now ≡ newer.notes = c.as_slice.ensures.value ∙ ap (λ (v : Log). v.notes) c.newer.view_is in
    let before : c.as_mut_slice.result.now ≡ old.notes = c.as_mut_slice.ensures.value ∙ ap (λ (v : Log). v.notes) c.self.view_is in
    let taken : (k : ℕ) → first ≤ k → k < newer.number → newer.number ≤ k + 4 → note_at new k ≡ note_at newer k =
    (λ k lo hi le. ap (λ (ns : List Noted). get_or ns (k % 4) nothing) rows ∙ (c.take_notes.ensures.taken k lo (omega arith) (omega arith) ∙ ap (λ (ns : List Noted). get_or ns (k % 4) nothing) theirs)) in
    let others : (j : ℕ) → j < 4 → ((k : ℕ) → first ≤ k → k < newer.number → k % 4 ≢ j) → get_or notes j nothing ≡ get_or old.notes j nothing =
    (λ j lt none. ap (λ (ns : List Noted). get_or ns j nothing) rows ∙ (c.take_notes.ensures.others j lt (λ k lo hi. none k lo (omega arith)) ∙ ap (λ (ns : List Noted). get_or ns j nothing) before)) in
    caught_up old new newer us first on ahead c.requires.width c.requires.height wide high number from taken others
