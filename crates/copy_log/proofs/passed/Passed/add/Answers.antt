use Rattle.std.proofs.Common.{◌≡◌, ℕ, ◌<◌, ◌∙◌, Bool, List, length, ap, sym, subst, arith}
use Rattle.std.specs.Prelude.{◌||◌}
use Rattle.std.proofs.lemmas.List.{with_items_is}
use Rattle.std.specs.Vec.{with_items}
use Rattle.raster.specs.Screen.{tile_count}
use Rattle.copy_log.specs.declared.copy_rect.CopyRect.{CopyRect}
use Rattle.copy_log.specs.Notes.{PassedOn, is_marked, paints, passed_in}
use Rattle.copy_log.specs.Passed.{IsSamePassed, Passed, passed_after_paints}
use Rattle.copy_log.proofs.Adding.{note_passed}
use Rattle.copy_log.proofs.passed.Passed.add.Goals as goal

pub returns-clause-passed : goal.returns-clause-passed
returns-clause-passed c u noted =
    let old : PassedOn = c.args.self.now in
    let mid : PassedOn = c.pass_copies.new.self in
    let touched : ℕ → Bool = is_marked c.args.note.now.touched in
    let marks : List Bool = (with_items c.self.inside.lacks c.mark_both.new.marks).items in
    let new : Passed = record { copies = paints c.self.inside.copies.items; lacks = is_marked marks } in
    let rows : marks ≡ c.mark_both.new.marks = with_items_is c.self.inside.lacks c.mark_both.new.marks (omega (arith, c.mark_both.auto.marks, c.as_mut_slice.ensures.len)) in
    let behind : IsSamePassed old.width old.height (passed_after_paints old.width old.height c.args.area.now (passed_in old) (paints c.args.note.now.copies)) (passed_in mid) =
    subst (λ (cs : List CopyRect). IsSamePassed old.width old.height (passed_after_paints old.width old.height c.args.area.now (passed_in old) (paints cs)) (passed_in mid)) c.copies.ensures.value c.pass_copies.ensures.passed in
    let wide : c.self.inside.width ≡ old.width = ap (λ (v : PassedOn). v.width) c.self.view_is ∙ c.pass_copies.ensures.size.width in
    let high : c.self.inside.height ≡ old.height = ap (λ (v : PassedOn). v.height) c.self.view_is ∙ c.pass_copies.ensures.size.height in
    let count : length c.as_mut_slice.result.now ≡ tile_count old.width old.height = ap (λ (ms : List Bool). length ms) c.as_mut_slice.ensures.value ∙ (c.self.invariant.1 ∙ (λ i. tile_count (wide i) (high i))) in
    let before : c.as_mut_slice.result.now ≡ mid.lacks = c.as_mut_slice.ensures.value ∙ ap (λ (v : PassedOn). v.lacks) c.self.view_is in
    let lacked : (t : ℕ) → t < tile_count old.width old.height → is_marked marks t ≡ (is_marked mid.lacks t || touched t) =
    (λ t lt. ap (λ (ms : List Bool). is_marked ms t) rows ∙ (c.mark_both.ensures t (subst (λ n. t < n) (sym count) lt) ∙ (λ i. is_marked (before i) t || is_marked (c.touched.ensures i) t))) in
    note_passed old.width old.height c.args.area.now (passed_in old) (paints c.args.note.now.copies) touched (passed_in mid) new u noted behind
    (ap (λ (v : PassedOn). paints v.copies) c.self.view_is) lacked
