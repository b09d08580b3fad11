use Rattle.std.proofs.Common.{◌≡◌, ◌∙◌, ◌+◌, ◌-◌, ◌<◌, ◌≤◌, ℕ, true, false, arith, sym, inl, inr}
use Rattle.std.proofs.lemmas.Bool.{cases_lt}
use Rattle.raster.specs.Screen.{Canvas, value_at, part_of}
use Rattle.raster.specs.Encoding.{Subrect}
use Rattle.joined_runs.specs.Joined.{stands_in}
use Rattle.joined_runs.specs.Found.{subrect_of}
use Rattle.joined_runs.proofs.RowHas.{row_stands, front_is}
use Rattle.joined_runs.proofs.joining.rows_below.Goals as goal
use Rattle.joined_runs.proofs.joining.rows_below.Goals.{then-loop-y-test+else-has_run, else-loop-y-test}

pub loop-y-preserved : goal.loop-y-preserved
loop-y-preserved c =
    let run : Subrect = subrect_of c.args.run.now in
    let canvas : Canvas = part_of c.args.area.now (value_at c.args.w c.args.values.now) in
    let y : ℕ = c.loop-y.y in
    let stands = row_stands canvas c.row_of.result.now c.args.area.now.w y run c.row_of.ensures.len c.row_of.ensures.values c.requires.column in
    let here : stands_in canvas c.args.area.now.w run y ≡ true = sym stands ∙ (sym (c.has_run.ensures y) ∙ c.if-has_run.true) in
    record {
      below = omega (arith, c.loop-y.invariant.below);
      inside = omega (arith, c.loop-y-test.true);
      have = λ k lo hi. elim (cases_lt k y) [
        | inl lt ↦ c.loop-y.invariant.have k lo lt
        | inr ge ↦ let last : k ≡ y = omega arith in rw last here
      ];
    }

pub returns-clause-value : goal.returns-clause-value
returns-clause-value c =
    let run : Subrect = subrect_of c.args.run.now in
    let canvas : Canvas = part_of c.args.area.now (value_at c.args.w c.args.values.now) in
    let y : ℕ = c.loop-y.y in
    let first : ℕ = c.args.run.now.y + 1 in
    let h : ℕ = c.args.area.now.h in
    let count : y - c.args.run.now.y - 1 ≡ y - first = omega arith in
    let at : first + (y - first) ≡ y = omega (arith, c.loop-y.invariant.below) in
    let some : y - first ≤ h - first = omega (arith, c.loop-y.invariant.inside) in
    let each : (k : ℕ) → first ≤ k → k < first + (y - first) → stands_in canvas c.args.area.now.w run k ≡ true = λ k lo hi. c.loop-y.invariant.have k lo (omega (arith, at, hi)) in
    elim c.loop-y-test.branch [
      | then-loop-y-test+else-has_run w ↦
          let stands = row_stands canvas w.row_of.result.now c.args.area.now.w y run w.row_of.ensures.len w.row_of.ensures.values c.requires.column in
          let none : stands_in canvas c.args.area.now.w run y ≡ false = sym stands ∙ (sym (w.has_run.ensures y) ∙ w.if-has_run.false) in
          count ∙ sym (front_is (stands_in canvas c.args.area.now.w run) first (h - first) (y - first) some each (inr (rw at none)))
      | else-loop-y-test w ↦ count ∙ sym (front_is (stands_in canvas c.args.area.now.w run) first (h - first) (y - first) some each (inl (omega (arith, w.loop-y-test.false))))
    ]
