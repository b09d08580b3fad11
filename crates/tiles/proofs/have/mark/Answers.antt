use Rattle.std.proofs.Common.{◌≡◌, ℕ, ◌+◌, ◌*◌, ◌<◌, ◌≤◌, Option, Some, arith, subst}
use Rattle.std.specs.Prelude.{slice_get}
use Rattle.raster.specs.Screen.{tiles_across}
use Rattle.raster.proofs.Rows.{fill_more}
use Rattle.tiles.proofs.have.mark.Goals as goal

pub loop-row-preserved : goal.loop-row-preserved
loop-row-preserved c =
    let row : ℕ = c.args.tiles.y + c.loop-row.row in
    let x : ℕ = c.args.tiles.x in
    let n : ℕ = c.args.tiles.w in
    let now : ℕ → Option (Option ℕ) = slice_get c.loop-row.sent in
    let new : ℕ → Option (Option ℕ) = slice_get c.mark_part.new.sent in
    let across = c.tiles_along-across.ensures in
    let lower : row < tiles_across c.args.height = omega (arith, c.requires.within.down) in
    record {
      all = omega (arith, c.loop-row.invariant.all);
      filled = fill_more (tiles_across c.args.width) (tiles_across c.args.height) x c.args.tiles.y n c.loop-row.row (Some c.args.number) (λ i j. slice_get c.args.sent.now (j * tiles_across c.args.width + i)) now new c.requires.within.across lower c.loop-row.invariant.filled
          (subst (λ (a : ℕ). (k : ℕ) → row * a + x ≤ k → k < row * a + x + n → new k ≡ Some c.args.number) across c.mark_part.ensures.inside)
          (subst (λ (a : ℕ). (k : ℕ) → k < row * a + x → new k ≡ now k) across c.mark_part.ensures.before)
          (subst (λ (a : ℕ). (k : ℕ) → row * a + x + n ≤ k → new k ≡ now k) across c.mark_part.ensures.behind);
    }
