use Rattle.std.proofs.Common.{◌≡◌, ℕ, ◌<◌, List, Bool, Option, Some, true, length, take, drop, ap, sym, ◌∙◌, refl, subst, arith}
use Rattle.std.specs.Prelude.{◌&&◌}
use Rattle.std.specs.List.{list_any}
use Rattle.std.specs.Vec.{with_items}
use Rattle.std.proofs.lemmas.Bool.{and_parts, both_ways}
use Rattle.std.proofs.lemmas.List.{take_all, with_items_is}
use Rattle.raster.specs.Screen.{tile_count}
use Rattle.raster.specs.Update.{Update}
use Rattle.copy_log.specs.Notes.{is_marked, passed_in, reaches}
use Rattle.copy_log.specs.Passed.{IsSamePassed, has_copy}
use Rattle.reflect_core.specs.declared.cut.Cut.{Cut}
use Rattle.reflect_core.specs.Source.{IsCutOf, is_recent, passed_to}
use Rattle.reflect_core.proofs.PassLaws.{PassesNone, cut_with_copies, cut_without_copies, passed_for, passed_since, passes_none, recent_is}
use Rattle.reflect_core.proofs.cut.Cut.pass_copies.Goals as goal
use Rattle.reflect_core.proofs.cut.Cut.pass_copies.Goals.{else-has_copies-via-then-has_copies+else-pass, else-has_copies-via-else-has_copies}

pub returns-then-pass-clause-cut : goal.returns-then-pass-clause-cut
returns-then-pass-clause-cut c us on was =
    let have = c.args.have.now in
    let log = c.args.log.now in
    let area = c.args.area.now in
    let old : Cut = c.args.self.now in
    let number : ℕ = c.in-Some.number in
    let due : List Bool = (with_items old.due c.leave_lacked.new.due).items in
    let rows : due ≡ c.leave_lacked.new.due = with_items_is old.due c.leave_lacked.new.due (omega (arith, c.leave_lacked.auto.due, c.as_mut_slice.ensures.len)) in
    let wide : log.width ≡ have.width = c.requires.log.0 ∙ sym c.requires.screen.0 in
    let high : log.height ≡ have.height = c.requires.log.1 ∙ sym c.requires.screen.1 in
    let recent : is_recent number us ≡ true = sym (recent_is log us number on) ∙ (sym c.pass.ensures.reaches ∙ c.if-pass.true) in
    let passed : IsSamePassed have.width have.height (passed_since have area number us) (passed_in c.pass.new.into) =
    passed_for log.width log.height have.width have.height area c.new-held.result.have.now have c.new-held.result.number number (drop number us) (passed_in c.pass.new.into) wide high c.new-held.ensures.0 c.new-held.ensures.1 (c.pass.ensures.passed us c.if-pass.true on) in
    let count : length old.due.items ≡ tile_count have.width have.height = old.tiles ∙ (λ i. tile_count (sym c.requires.screen.0 i) (sym c.requires.screen.1 i)) in
    let before : c.as_mut_slice.result.now ≡ old.due.items = c.as_mut_slice.ensures.value in
    let left : (t : ℕ) → t < tile_count have.width have.height → is_marked due t ≡ (is_marked old.due.items t && is_marked c.pass.new.into.lacks t) =
    (λ t lt. ap (λ (ms : List Bool). is_marked ms t) rows ∙ (c.leave_lacked.ensures t (subst (λ n. t < n) (sym count ∙ ap (λ (ms : List Bool). length ms) (sym before)) lt) ∙ ap (λ (ms : List Bool). is_marked ms t && is_marked c.pass.new.into.lacks t) before)) in
    let long : length due ≡ tile_count have.width have.height = omega (arith, ap (λ (ms : List Bool). length ms) rows, c.leave_lacked.auto.due, c.as_mut_slice.ensures.len, count) in
    cut_with_copies us area have c.args.since number old _ c.in-Some.is (record { width = refl; number = refl; host_size = refl; bells = refl; text = refl; colours = refl; all_were_sent = refl }) was recent (c.pass.ensures.few c.if-pass.true) passed long left

pub returns-else-has_copies-clause-cut : goal.returns-else-has_copies-clause-cut
returns-else-has_copies-clause-cut c us on was =
    let have = c.args.have.now in
    let area = c.args.area.now in
    let number : ℕ = c.in-Some.number in
    let found : c.has_copies.result ≡ (is_recent number us && list_any has_copy (drop number us)) =
    c.has_copies.ensures us on ∙ ap (λ b. b && list_any has_copy (drop number us)) (recent_is c.args.log.now us number on) in
    elim c.else-has_copies.branch [
      | else-has_copies-via-then-has_copies+else-pass w ↦
          (let far : reaches c.args.log.now number ≡ true = (and_parts (reaches c.args.log.now number) (list_any has_copy (drop number us)) (sym (c.has_copies.ensures us on) ∙ w.if-has_copies.true)).0 in
          absurd (both_ways (reaches c.args.log.now number) (sym w.pass.ensures.reaches ∙ w.if-pass.false) far))
      | else-has_copies-via-else-has_copies w ↦
          (let none : PassesNone have area us (passed_to have area (Some number) us) = passes_none have area number us (sym found ∙ w.if-has_copies.false) in
          let all : us ≡ take (length us) us = sym (take_all (length us) us (omega arith)) in
          let none_here : PassesNone have area (take (length us) us) (passed_to have area (Some number) (take (length us) us)) = subst (λ (vs : List Update). PassesNone have area vs (passed_to have area (Some number) vs)) all none in
          subst (λ (v : Cut). IsCutOf us (length us) area have c.args.since v) (sym w.self-is)
          (subst (λ (since : Option ℕ). IsCutOf us (length us) area have since c.args.self.now) (sym c.in-Some.is) (cut_without_copies us (length us) area have (Some number) c.args.self.now none_here was)))
    ]
