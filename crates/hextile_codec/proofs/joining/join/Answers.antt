use Rattle.std.proofs.Common.{◌≡◌, ℕ, ◌+◌, ◌∙◌, ◌++◌, List, [], ◌∷◌, Option, Some, None, length, length-append, map, get_or, refl, sym, ap, arith}
use Rattle.std.specs.Prelude.{MatchOption}
use Rattle.std.proofs.lemmas.List.{append-nil, map-append}
use Rattle.raster.specs.Screen.{Canvas, value_at, part_of}
use Rattle.raster.specs.Encoding.{Subrect}
use Rattle.joined_runs.specs.declared.rect_form.RectForm.TheVariants.{Joined}
use Rattle.joined_runs.specs.Joined.{written}
use Rattle.joined_runs.specs.Found as whole
use Rattle.hextile_codec.specs.declared.runs.Run.{Run}
use Rattle.hextile_codec.specs.TileKinds.{IsRowRun, subrect_of}
use Rattle.hextile_codec.proofs.JoinedFound.{same_run, same_high, join_more}
use Rattle.hextile_codec.proofs.joining.join.Goals as goal
use Rattle.hextile_codec.proofs.joining.join.Goals.{in-Some, in_default}

no_height : (answer : Option ℕ) (one : List Subrect) (f : ℕ → List Subrect) → ((n : ℕ) → answer ≡ Some n → ⊥) → MatchOption answer (one ≡ []) (λ n. one ≡ f n) → one ≡ []
no_height None one f ne e = e
no_height (Some n) one f ne e = absurd (ne n refl)

pub loop-run-preserved : goal.loop-run-preserved
loop-run-preserved c =
    let canvas : Canvas = part_of c.args.tile.now (value_at c.args.w c.args.values.now) in
    let w : ℕ = c.args.tile.now.w in
    let h : ℕ = c.args.tile.now.h in
    let runs : List Run = c.args.runs.now in
    let i : ℕ = c.loop-run.run-index in
    let none : Run = record { value = 0; x = 0; y = 0; len = 0; high = 0 } in
    let run : Run = get_or runs i none in
    let row : IsRowRun w h run = c.requires.rows i none c.loop-run-test.true in
    let x : ℕ = c.from.result in
    let y : ℕ = c.from-in-loop-run.result in
    let len : ℕ = c.from-in-loop-run-2.result in
    let one : List Subrect = written Joined canvas w h (whole.subrect_of (record { value = run.value; x = x; y = y; len = len }) ∷ []) in
    let same : one ≡ written Joined canvas w h (subrect_of run ∷ []) = ap (λ s. written Joined canvas w h (s ∷ [])) (same_run run x y len c.from.ensures c.from-in-loop-run.ensures c.from-in-loop-run-2.ensures row.flat) in
    elim c.match-height.branch [
      | in-Some v ↦
          let high : ℕ = v.in-Some.high in
          let run_high : Run = record { value = run.value; x = run.x; y = run.y; len = run.len; high = high } in
          let now : c.match-height.joined.items ≡ c.loop-run.joined.items ++ run_high ∷ [] = rw v.joined-is v.push.ensures.items in
          let count : length c.match-height.joined.items ≡ length c.loop-run.joined.items + 1 = ap length now ∙ length-append c.loop-run.joined.items (run_high ∷ []) in
          let put : written Joined canvas w h (subrect_of run ∷ []) ≡ subrect_of run_high ∷ [] = sym same ∙ (v.in-Some.ensures.value ∙ ap (λ s. s ∷ []) (same_high run x y len high c.from.ensures c.from-in-loop-run.ensures c.from-in-loop-run-2.ensures)) in
          record {
            few = omega (arith, count, c.loop-run.invariant.few);
            so_far = join_more canvas w h runs c.loop-run.joined.items c.match-height.joined.items i none c.loop-run-test.true c.loop-run.invariant.so_far
                (ap (map subrect_of) now ∙ (map-append subrect_of c.loop-run.joined.items (run_high ∷ []) ∙ ap (λ t. map subrect_of c.loop-run.joined.items ++ t) (sym put)));
          }
      | in_default v ↦
          let put : written Joined canvas w h (subrect_of run ∷ []) ≡ [] = sym same ∙ no_height c.height.result one (λ high. whole.subrect_as_high (record { value = run.value; x = x; y = y; len = len }) high ∷ []) v.in_default.not-Some c.height.ensures.value in
          record {
            few = rw v.joined-is (omega (arith, c.loop-run.invariant.few));
            so_far = rw v.joined-is (join_more canvas w h runs c.loop-run.joined.items c.loop-run.joined.items i none c.loop-run-test.true c.loop-run.invariant.so_far
                (sym (append-nil (map subrect_of c.loop-run.joined.items)) ∙ ap (λ t. map subrect_of c.loop-run.joined.items ++ t) (sym put)));
          }
    ]
