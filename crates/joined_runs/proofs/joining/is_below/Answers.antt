use Rattle.std.proofs.Common.{◌≡◌, ◌∙◌, ◌-◌, ℕ, false, not, ◌&&◌, arith, ap, sym}
use Rattle.std.specs.Prelude.{◌==◌}
use Rattle.std.proofs.lemmas.Bool.{ne_eqb}
use Rattle.raster.specs.Screen.{Canvas, value_at, part_of}
use Rattle.raster.specs.Encoding.{Subrect}
use Rattle.joined_runs.specs.Joined.{stands_in}
use Rattle.joined_runs.specs.Found.{subrect_of}
use Rattle.joined_runs.proofs.RowHas.{row_stands}
use Rattle.joined_runs.proofs.joining.is_below.Goals as goal

pub returns-then-run-gt0 : goal.returns-then-run-gt0
returns-then-run-gt0 c =
    let run : Subrect = subrect_of c.args.run.now in
    let canvas : Canvas = part_of c.args.area.now (value_at c.args.w c.args.values.now) in
    let y : ℕ = c.args.run.now.y - 1 in
    let stands = row_stands canvas c.row_of.result.now c.args.area.now.w y run c.row_of.ensures.len c.row_of.ensures.values c.requires.column in
    let some : (c.args.run.now.y == 0) ≡ false = ne_eqb c.args.run.now.y 0 (λ e. absurd (omega (arith, e, c.if-run-gt0.true))) in
    c.has_run.ensures y ∙ (stands ∙ ap (λ b. not b && stands_in canvas c.args.area.now.w run y) (sym some))
